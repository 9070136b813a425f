use Rattle.std.proofs.Common.{◌∙◌, ◌≤◌, ℕ, Bool, inl, inr, List, length, ap, refl, subst, sym, true}
use Rattle.crash_image.specs.TraceIndexView.{IndexView}
use Rattle.program.specs.Sections.{Sections}
use Rattle.recovery.specs.Images.{AsksOn, has_same_bytes}
use Rattle.routine_judge.proofs.Finding.{found_of}
use Rattle.routine_judge.proofs.Running.{across}
use Rattle.routine_judge.specs.Gathered.{AreAnswers}
use Rattle.routine_judge.specs.ImagesVerdicts.{IsFoundIn}
use Rattle.routine_judge.specs.RightAnswers.{AsksOf, IsFoundOf, RunsOn, Source, same_bytes}
use Rattle.routine_judge.specs.Standing.{IsBasis, IsPassed, source_at}
use Rattle.routine_judge.proofs.Sourcing.{basis_source}
use Rattle.routine_judge.specs.Views.{JudgeView}
use Rattle.routine_judge.specs.declared.cause.Cause.{Cause}
use Rattle.routine_judge.specs.declared.history.moments.Window.{Window}
use Rattle.routine_judge.specs.declared.right.RightAnswers.{RightAnswers}
use Rattle.store_trace.proofs.Images.{image_same}
use Rattle.store_trace.specs.History.{at_moment}
use Rattle.store_trace.specs.declared.crash_model.step.PersistenceStep.{PersistenceStep}
use Rattle.store_trace.specs.declared.event.Event.{Event}
use Rattle.verdict.proofs.CutLines.{images_of}
use Rattle.verdict.proofs.Meaning.{moment_meant}
use Rattle.verdict.specs.CutImages.{image_at}
use Rattle.verdict.specs.Verdicts.{AreFlagged, IfPassed, IsMomentVerdict}
use Rattle.verdict.specs.declared.moment_verdict.verdict.MomentVerdict.{MomentVerdict}
use Rattle.verdict.specs.declared.moment_verdict.verdict.MomentVerdict.TheVariants as moments
use Rattle.routine_judge.proofs.judge.open_at.Goals as goal

-- the verdict after persistence steps on the images of a moment, by right answers as they are gathered, and the lines that are flagged then
abbrev JudgedBy : RightAnswers → List PersistenceStep → MomentVerdict Cause → Sections → ℕ → List (List ℕ) → List Event → ℕ → Type 0
JudgedBy right p verdict program steps start events m =
    IsMomentVerdict true (has_same_bytes (λ k. image_at start events m k)) (λ k. AsksOn program steps (image_at start events m k))
    (λ k. IsFoundIn right program steps (image_at start events m k)) p verdict

abbrev FlaggedBy : List Bool → List PersistenceStep → MomentVerdict Cause → Sections → ℕ → List (List ℕ) → List Event → ℕ → Type 0
FlaggedBy flags p verdict program steps start events m = IfPassed verdict (AreFlagged (λ k. AsksOn program steps (image_at start events m k)) p flags)

-- by what makes them right
meant_of : (view : JudgeView) (source : Source) (m : ℕ) (right : RightAnswers) (p : List PersistenceStep) (verdict : MomentVerdict Cause) →
    AreAnswers view source right → JudgedBy right p verdict view.routine view.steps view.start view.events m →
    IsMomentVerdict true (same_bytes view m) (AsksOf view m) (IsFoundOf view source m) p verdict
meant_of view source m right p verdict are v =
    moment_meant true (same_bytes view m) (AsksOf view m) (λ k. IsFoundIn right view.routine view.steps (image_at view.start view.events m k))
    (IsFoundOf view source m) p verdict (found_of view source m right are) v

-- where the moment passes, what is known of it
passed_of : (view : JudgeView) (flags : List Bool) (window : Window) (m : ℕ) (verdict : MomentVerdict Cause) → m ≤ length view.events → IsBasis view window m →
    ¬ RunsOn view (source_at view window m) →
    IsMomentVerdict true (same_bytes view m) (AsksOf view m) (IsFoundOf view (source_at view window m) m) (at_moment view.events m) verdict →
    IfPassed verdict (AreFlagged (AsksOf view m) (at_moment view.events m) flags) → IfPassed verdict (IsPassed view flags window m)
passed_of view flags window m moments.Pass there is e v f = record { there = there; is_basis = is; flagged = f; ends = e; passes = v }
passed_of view flags window m (moments.Fail name cause of_too_many) there is e v f = tt
passed_of view flags window m (moments.TooMany named) there is e v f = tt
passed_of view flags window m moments.TooLong there is e v f = tt

pub new-cuts-requires-clause-whole : goal.new-cuts-requires-clause-whole
new-cuts-requires-clause-whole g c =
    let i = c.run.inside in
    let v = c.run.invariant in
    images_of i.index.start i.medium.now i.index.events i.trace.now.events c.args.moment v.1 v.2 v.4 v.5

pub open_moment-requires-clause-alike : goal.open_moment-requires-clause-alike
open_moment-requires-clause-alike g c κs within = λ k other found same f.
    let cuts = c.new-cuts.result in
    subst (λ (lines : List (List ℕ)). IsFoundIn c.renew.new.self.right c.run.inside.routine.now c.run.inside.steps lines found)
    (sym (image_same cuts.index.now.start k other (at_moment cuts.index.now.events cuts.moment) same)) f

pub returns-then-answers-clause-ok : goal.returns-then-answers-clause-ok
returns-then-answers-clause-ok g c =
    let view = c.args.run.now in
    let window = c.renew.new.self.window in
    record {
      source = source_at view window c.args.moment;
      is_source = basis_source view.right view window c.args.moment c.in_ok-renew.ensures.basis;
      judged = inl (refl, c.in_ok-renew.ensures.right.on c.if-answers.true);
    }

pub returns-clause-ok : goal.returns-clause-ok
returns-clause-ok g c =
    let i = c.run.inside in
    let v = c.run.invariant in
    let window = c.renew.new.self.window in
    let view = c.args.run.now in
    let m = c.args.moment in
    let cuts = c.new-cuts.result in
    let own = c.new-cuts.ensures.index in
    let right = c.renew.new.self.right in
    let verdict = c.in_ok-verdict.verdict in
    let start = ap (λ (x : IndexView). x.start) own ∙ v.1 ∙ ap (λ (w : JudgeView). w.start) c.run.view_is in
    let events = ap (λ (x : IndexView). x.events) own ∙ v.2 ∙ ap (λ (w : JudgeView). w.events) c.run.view_is in
    let ours = across (JudgedBy right (at_moment i.trace.now.events m) verdict) view m i.routine.now i.steps cuts.index.now.start cuts.index.now.events cuts.moment
    (ap (λ (w : JudgeView). w.routine) c.run.view_is) (ap (λ (w : JudgeView). w.steps) c.run.view_is) start events c.new-cuts.ensures.moment
    c.in_ok-verdict.ensures.ok in
    let judged = meant_of view (source_at view window m) m right (at_moment view.events m) verdict c.in_ok-renew.ensures.right
    (subst (λ (es : List Event). JudgedBy right (at_moment es m) verdict view.routine view.steps view.start view.events m) (ap (λ (w : JudgeView). w.events) c.run.view_is) ours) in
    record {
      source = source_at view window m;
      is_source = basis_source view.right view window m c.in_ok-renew.ensures.basis;
      judged = inr (c.in_ok-renew.ensures.right.ends c.if-answers.false, judged);
    }

pub returns-clause-passed : goal.returns-clause-passed
returns-clause-passed g c =
    let i = c.run.inside in
    let v = c.run.invariant in
    let window = c.renew.new.self.window in
    let view = c.args.run.now in
    let m = c.args.moment in
    let cuts = c.new-cuts.result in
    let own = c.new-cuts.ensures.index in
    let right = c.renew.new.self.right in
    let verdict = c.in_ok-verdict.verdict in
    let flags = c.open_moment.new.opener in
    let start = ap (λ (x : IndexView). x.start) own ∙ v.1 ∙ ap (λ (w : JudgeView). w.start) c.run.view_is in
    let events = ap (λ (x : IndexView). x.events) own ∙ v.2 ∙ ap (λ (w : JudgeView). w.events) c.run.view_is in
    let program = ap (λ (w : JudgeView). w.routine) c.run.view_is in
    let steps = ap (λ (w : JudgeView). w.steps) c.run.view_is in
    let later = ap (λ (w : JudgeView). w.events) c.run.view_is in
    let ours = across (JudgedBy right (at_moment i.trace.now.events m) verdict) view m i.routine.now i.steps cuts.index.now.start cuts.index.now.events cuts.moment
    program steps start events c.new-cuts.ensures.moment c.in_ok-verdict.ensures.ok in
    let asked = across (FlaggedBy flags (at_moment i.trace.now.events m) verdict) view m i.routine.now i.steps cuts.index.now.start cuts.index.now.events cuts.moment
    program steps start events c.new-cuts.ensures.moment c.in_ok-verdict.ensures.asked in
    passed_of view flags window m verdict c.requires.there c.in_ok-renew.ensures.basis (c.in_ok-renew.ensures.right.ends c.if-answers.false)
    (meant_of view (source_at view window m) m right (at_moment view.events m) verdict c.in_ok-renew.ensures.right
    (subst (λ (es : List Event). JudgedBy right (at_moment es m) verdict view.routine view.steps view.start view.events m) later ours))
    (subst (λ (es : List Event). FlaggedBy flags (at_moment es m) verdict view.routine view.steps view.start view.events m) later asked)
