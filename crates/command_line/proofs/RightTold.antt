-- The right answers that are told of a moment, by the rule that says what is right.
use Rattle.std.proofs.Common.{◌≡◌, ◌∙◌, ℕ, List, [], ap, subst, sym}
use Rattle.crash_test.specs.Judging.{view_on}
use Rattle.routine_judge.specs.RightMoments.{AreFullAnswers, AreRightAt}
use Rattle.routine_judge.specs.Rules.{JudgementView, judgement_view, right_by}
use Rattle.routine_judge.specs.Views.{RightBy, own_moments, sequential_runs}
use Rattle.routine_judge.specs.declared.judging.Judgement.{Judgement}
use Rattle.routine_judge.specs.declared.right_moments.FullAnswers.{FullAnswers}
use Rattle.routine_judge.specs.declared.right_moments.RightAnswer.{RightAnswer}
use Rattle.routine_judge.specs.declared.rule.ProgramRuns.{ProgramRuns}
use Rattle.routine_judge.specs.declared.rule.Rule.{Rule}
use Rattle.routine_judge.specs.declared.rule.Rule.TheVariants.{Atomic}
use Rattle.store_trace.specs.declared.event.Event.{Event}
use Rattle.command_line.specs.Judging.{IsRuleOf, judgement_asked, right_asked}
use Rattle.command_line.specs.ToldAnswers.{AreRightBy, AreRightFor, view_asked}
use Rattle.command_line.specs.Traces.{events_of, medium_of}
use Rattle.command_line.specs.declared.opened.OpenJudge.{OpenJudge}

-- sequential runs say what is right, and none is told
pub none_told : (judge : OpenJudge) (rule : Rule) (runs : ProgramRuns) (moment : ℕ) (right : List RightAnswer) → rule ≡ Atomic runs → IsRuleOf judge rule → right ≡ [] →
    AreRightFor judge moment right
none_told judge rule runs moment right is of none =
    let by : sequential_runs runs.program.now runs.harts ≡ right_asked judge.command.right judge.start = sym (ap right_by is) ∙ of.right in
    subst (λ (b : RightBy). AreRightBy b (view_asked judge) moment right) by none

-- moments of the events say so
pub moments_told : (judge : OpenJudge) (judgement : Judgement) (medium : List (List ℕ)) (events : List Event) (moment : ℕ) (right : List RightAnswer) →
    judgement_view judgement ≡ judgement_asked judge → medium ≡ medium_of judge.events → events ≡ events_of judge.events →
    right_asked judge.command.right judge.start ≡ own_moments → AreRightAt (view_on medium (judgement_view judgement) events) moment right →
    AreRightFor judge moment right
moments_told judge judgement medium events moment right asked start made own are =
    subst (λ (b : RightBy). AreRightBy b (view_asked judge) moment right) (sym own)
    (subst (λ (v : JudgementView). AreRightAt (view_on (medium_of judge.events) v (events_of judge.events)) moment right) asked
    (subst (λ (es : List Event). AreRightAt (view_on (medium_of judge.events) (judgement_view judgement) es) moment right) made
    (subst (λ (m : List (List ℕ)). AreRightAt (view_on m (judgement_view judgement) events) moment right) start are)))

-- those on all full images
pub full_told : (judge : OpenJudge) (judgement : Judgement) (medium : List (List ℕ)) (events : List Event) (full : FullAnswers) →
    judgement_view judgement ≡ judgement_asked judge → medium ≡ medium_of judge.events → events ≡ events_of judge.events →
    AreFullAnswers (view_on medium (judgement_view judgement) events) full → AreFullAnswers (view_asked judge) full
full_told judge judgement medium events full asked start made are =
    subst (λ (v : JudgementView). AreFullAnswers (view_on (medium_of judge.events) v (events_of judge.events)) full) asked
    (subst (λ (es : List Event). AreFullAnswers (view_on (medium_of judge.events) (judgement_view judgement) es) full) made
    (subst (λ (m : List (List ℕ)). AreFullAnswers (view_on m (judgement_view judgement) events) full) start are))
