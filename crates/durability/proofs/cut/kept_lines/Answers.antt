use Rattle.std.proofs.Common.{◌<◌, List, [], ◌∷◌, ◌++◌, length, get_or, take, subst, sym, arith}
use Rattle.std.proofs.lemmas.List.{take_more}
use Rattle.durability.proofs.Givens.{given_more}
use Rattle.durability.specs.Cuts.{IsKeptOf}
use Rattle.durability.specs.Given.{AreGiven}
use Rattle.durability.specs.declared.cut.CutLine.{CutLine}
use Rattle.durability.specs.declared.cut.Kept.{Kept}
use Rattle.durability.proofs.cut.kept_lines.Goals as goal

pub loop-entry-preserved : goal.loop-entry-preserved
loop-entry-preserved c =
    let none : CutLine = record { line = 0; number = 0 } in
    let i = c.loop-entry.entry-index in
    let cut = c.args.cut.now in
    let there : i < length cut = omega arith in
    let grown = given_more (IsKeptOf c.args.events.now c.args.moment) (take i cut) c.loop-entry.told.items (get_or cut i none) c.kept_of-kept.result
    c.loop-entry.invariant c.kept_of-kept.ensures in
    subst (λ (xs : List CutLine). AreGiven (IsKeptOf c.args.events.now c.args.moment) xs c.add.new.told.items) (sym (take_more cut i none there))
    (subst (λ (ys : List Kept). AreGiven (IsKeptOf c.args.events.now c.args.moment) (take i cut ++ get_or cut i none ∷ []) ys) (sym c.in_ok-add.ensures) grown)
