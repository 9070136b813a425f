use Rattle.std.proofs.Common.{◌∙◌, List, Option, Some, sym, ap}
use Rattle.nova_log.specs.declared.volume.entry.Entry.{Entry}
use Rattle.image_check.specs.SameOutcomes.{same_settled}
use Rattle.image_check.proofs.Comparing.{told_same}
use Rattle.image_check.proofs.legal.same_settled.Goals as goal

pub returns-in-Some-Some : goal.returns-in-Some-Some
returns-in-Some-Some c =
    told_same c.in-Some-Some.one c.in-Some-Some.other c.equals.result c.equals.ensures
    ∙ ap (λ (v : Option (List (List Entry))). same_settled v (Some c.in-Some-Some.other)) (sym c.in-Some-Some.is-0)
    ∙ ap (λ (v : Option (List (List Entry))). same_settled c.args.one.now v) (sym c.in-Some-Some.is-1)
