use Rattle.std.proofs.Common.{sym, ap, ◌∙◌, rules, w32, FitsSigned}
use Rattle.std.proofs.lemmas.Int.{to_z-of_z}
use Rattle.std.proofs.lemmas.Result.{on_ok_weaker}
use Rattle.assemble.specs.Numbers.{upper_half, lower_half}
use Rattle.assemble.specs.Labels.{place_at}
use Rattle.assemble.proofs.ByteSteps.{address_words}
use Rattle.assemble.proofs.bytes.append_address.Goals as goal

pub returns-clause-ok : goal.returns-clause-ok
returns-clause-ok c =
    let fits : FitsSigned w32 c.in_ok-distance.field-0 = search rules in
    let same = to_z-of_z w32 c.in_ok-distance.field-0 fits in
    let low_fits : FitsSigned w32 c.halves-upper.result.1 = search rules in
    let low_same = to_z-of_z w32 c.halves-upper.result.1 low_fits in
    on_ok_weaker c.append_words.result
    (address_words _ _ _ _ (place_at c.args.labels.now) c.args.place c.args.label.now _ _ (sym c.in_ok-distance.ensures) (c.halves-upper.ensures.upper ∙ ap upper_half same) (low_same ∙ c.halves-upper.ensures.lower ∙ ap lower_half same))
    c.append_words.ensures.ok
