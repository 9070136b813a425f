use Rattle.std.proofs.Common.{◌∙◌, ℕ, List, Option, subst, sym}
use Rattle.std.specs.Prelude.{IfSome}
use Rattle.routine_judge.proofs.Chaining.{image_size}
use Rattle.routine_judge.specs.CutVerdicts.{IsImageAt}
use Rattle.text.specs.declared.image_name.name.ImageName.{ImageName}
use Rattle.routine_judge.proofs.cuts.run.least_bad.Goals as goal

pub cause_from-requires : goal.cause_from-requires
cause_from-requires c =
    let at = c.args.at in
    let found = subst (λ (f : Option (ImageName × List (List ℕ))). IfSome f (λ one. IsImageAt at.medium.now at.trace.now.events at.moment one.0 one.1)) c.in-Some.is
    c.in_ok-image.ensures.image in
    c.in_ok-image.ensures.routine.1 ∙ c.requires.lines ∙ sym (image_size at.medium.now at.trace.now.events at.moment c.in-Some.image c.in-Some.medium found)
