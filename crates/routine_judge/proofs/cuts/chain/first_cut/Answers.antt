use Rattle.std.proofs.Common.{◌≡◌, ◌∙◌, ◌∷◌, ◌++◌, List, [], ℕ, Option, Some, length, ap, subst, sym}
use Rattle.std.specs.Prelude.{IfSome}
use Rattle.routine_judge.proofs.Chaining.{image_size, program_cut}
use Rattle.routine_judge.specs.CutVerdicts.{IsImageAt}
use Rattle.routine_judge.specs.Views.{JudgeView}
use Rattle.routine_judge.specs.declared.cuts.outcome.ChainLink.{ChainLink}
use Rattle.store_trace.specs.declared.event.Event.{Event}
use Rattle.text.specs.declared.image_name.name.ImageName.{ImageName}
use Rattle.routine_judge.proofs.cuts.chain.first_cut.Goals as goal

pub least_image-requires-clause-lines : goal.least_image-requires-clause-lines
least_image-requires-clause-lines c = c.requires.lines ∙ ap (λ (v : JudgeView). length v.start) (sym c.run.view_is)

-- the program's image
at_image : (medium : List (List ℕ)) (events : List Event) (m : ℕ) (found : Option (ImageName × List (List ℕ))) (name : ImageName) (left : List (List ℕ)) → found ≡ Some (name, left)
    → IfSome found (λ one. IsImageAt medium events m one.0 one.1) → IsImageAt medium events m name left
at_image medium events m found name left is at =
    subst (λ (f : Option (ImageName × List (List ℕ))). IfSome f (λ one. IsImageAt medium events m one.0 one.1)) is at

pub returns-clause-leads : goal.returns-clause-leads
returns-clause-leads c =
    let i = c.run.inside in
    let m = c.args.moment in
    let link : ChainLink = record { moment = m; image = c.in-Some.name } in
    program_cut c.args.run.now i.medium.now i.trace.now.events m c.in-Some.name c.in-Some.left c.push.new.self.items (ap (λ (v : JudgeView). v.start) c.run.view_is)
    (ap (λ (v : JudgeView). v.events) c.run.view_is) (c.in_ok-push.ensures.items ∙ ap (λ (links : List ChainLink). links ++ link ∷ []) c.new-links.ensures.items)
    (at_image i.medium.now i.trace.now.events m c.in_ok-found.found c.in-Some.name c.in-Some.left c.in-Some.is c.in_ok-found.ensures.image)

pub returns-clause-lines : goal.returns-clause-lines
returns-clause-lines c =
    let i = c.run.inside in
    let m = c.args.moment in
    image_size i.medium.now i.trace.now.events m c.in-Some.name c.in-Some.left
    (at_image i.medium.now i.trace.now.events m c.in_ok-found.found c.in-Some.name c.in-Some.left c.in-Some.is c.in_ok-found.ensures.image)
    ∙ ap (λ (v : JudgeView). length v.start) c.run.view_is
