use Rattle.std.proofs.Common.{◌∙◌, ap, ℕ, List, Result}
use Rattle.std.proofs.lemmas.Result.{IfOk-weaker}
use Rattle.crash_image.specs.TraceIndexView.{IndexView}
use Rattle.program.specs.Sections.{Sections}
use Rattle.recovery.specs.Images.{AnswersOn}
use Rattle.recovery.specs.declared.recovery_run.Cause as run
use Rattle.routine_judge.specs.Images.{full_cut}
use Rattle.routine_judge.specs.RightAnswers.{ShowsFull}
use Rattle.routine_judge.specs.Views.{JudgeView}
use Rattle.store_trace.specs.declared.event.Event.{Event}
use Rattle.verdict.specs.CutImages.{image_at}
use Rattle.verdict.proofs.CutLines.{images_of}
use Rattle.routine_judge.proofs.Running.{across}
use Rattle.routine_judge.proofs.answers.run_full.Goals as goal

-- what the routine comes to on the full image of a moment
abbrev Full : Result (List ℕ) run.Cause → Sections → ℕ → List (List ℕ) → List Event → ℕ → Type 0
Full found program steps start events m = AnswersOn program steps (image_at start events m (full_cut events m)) found

pub new-cuts-requires-clause-whole : goal.new-cuts-requires-clause-whole
new-cuts-requires-clause-whole c =
    let i = c.run.inside in
    let v = c.run.invariant in
    images_of i.index.start i.medium.now i.index.events i.trace.now.events c.args.moment v.1 v.2 v.4 v.5

pub returns-clause-ok : goal.returns-clause-ok
returns-clause-ok c =
    let i = c.run.inside in
    let v = c.run.invariant in
    let cuts = c.new-cuts.result in
    let own = c.new-cuts.ensures.index in
    let view = c.args.run.now in
    IfOk-weaker c.full_answer.result _ (ShowsFull view c.args.moment)
    (λ found shown. across (Full found) view c.args.moment c.args.routine.now.program i.steps cuts.index.now.start cuts.index.now.events cuts.moment
    c.requires.program (ap (λ (w : JudgeView). w.steps) c.run.view_is)
    (ap (λ (x : IndexView). x.start) own ∙ v.1 ∙ ap (λ (w : JudgeView). w.start) c.run.view_is)
    (ap (λ (x : IndexView). x.events) own ∙ v.2 ∙ ap (λ (w : JudgeView). w.events) c.run.view_is) c.new-cuts.ensures.moment shown)
    c.full_answer.ensures.ok
