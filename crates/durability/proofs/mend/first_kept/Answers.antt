use Rattle.std.proofs.Common.{List, take, subst}
use Rattle.std.proofs.lemmas.List.{take_all}
use Rattle.durability.proofs.MendLists.{first_more, first_none}
use Rattle.durability.specs.Mends.{IsKeptBehind}
use Rattle.durability.specs.Numbered.{IsFirstIfAny}
use Rattle.durability.specs.declared.cut.Kept.{Kept}
use Rattle.durability.proofs.mend.first_kept.Goals as goal

pub loop-one-init : goal.loop-one-init
loop-one-init c = first_none c.args.store

pub loop-one-preserved : goal.loop-one-preserved
loop-one-preserved c =
    let none : Kept = record { line = 0; store = 0 } in
    first_more c.args.kept.now c.loop-one.one-index none c.args.store c.loop-one.first _ c.loop-one-test.true c.first_behind-first.ensures c.loop-one.invariant

pub returns : goal.returns
returns c =
    subst (λ (kept : List Kept). IsFirstIfAny (IsKeptBehind kept c.args.store) c.loop-one.first)
    (take_all c.loop-one.one-index c.args.kept.now c.loop-one-test.false) c.loop-one.invariant
