-- What a pass says of the run with power cuts in recovery.
use Rattle.std.proofs.Common.{◌≡◌, ◌∙◌, ℕ, ◌+◌, ◌≤◌, Bool, inl, inr, List, Option, Some, None, length, ap, refl, subst, arith}
use Rattle.std.specs.Prelude.{max, min}
use Rattle.crash_test.proofs.Running.{HasTrace}
use Rattle.crash_test.specs.CutsJudging.{StaysRecovered}
use Rattle.crash_test.specs.Judging.{AlwaysRecovers, view_of}
use Rattle.machine.proofs.Determined.{runs_once}
use Rattle.machine.specs.Replies.{trace_in}
use Rattle.machine.specs.Run.{Config}
use Rattle.machine.specs.RunValues.{start_of}
use Rattle.machine.specs.Steps.{all_steps}
use Rattle.machine.specs.declared.recording.setup.Setup.{Setup}
use Rattle.machine.specs.declared.schedule.items.Item.{Item}
use Rattle.routine_judge.specs.Chains.{IsCutsVerdict, most_of}
use Rattle.routine_judge.specs.CutVerdicts.{IsJudgedWith}
use Rattle.routine_judge.specs.CutsInRecovery.{IsAllowed}
use Rattle.routine_judge.specs.Rules.{JudgementView}
use Rattle.routine_judge.specs.Verdicts.{first_judged, judged_from}
use Rattle.routine_judge.specs.Views.{JudgeView}
use Rattle.routine_judge.specs.declared.cuts.judging.CutCause.{CutCause}
use Rattle.routine_judge.specs.declared.cuts.outcome.CutsVerdict.{CutsVerdict}
use Rattle.routine_judge.specs.declared.cuts.outcome.CutsVerdict.TheVariants.{Pass}
use Rattle.routine_judge.specs.declared.cuts.outcome.RecoveryCuts.{RecoveryCuts}
use Rattle.routine_judge.specs.declared.cuts.outcome.RecoveryCuts.TheVariants.{AtMost, Any}
use Rattle.store_trace.specs.Cut.{number_in}
use Rattle.store_trace.specs.History.{at_moment}
use Rattle.store_trace.specs.Image.{image}
use Rattle.store_trace.specs.declared.event.Event.{Event}
use Rattle.verdict.specs.Rows.{end_of}
use Rattle.verdict.specs.Verdicts.{PassBetween}
use Rattle.verdict.specs.declared.moment_verdict.verdict.MomentVerdict.{MomentVerdict}
use Rattle.verdict.specs.declared.moment_verdict.verdict.MomentVerdict.TheVariants as moments

-- the moments of a part end by one past the last one
pub end_within : (events : List Event) (last : Option ℕ) → end_of events last ≤ length events + 1
end_within events None = omega arith
end_within events (Some last) = omega arith

-- the verdict on some moments of a run, by other names
pub cuts_as : (asked : RecoveryCuts) (goes_on on : Bool) (run same : JudgeView) (first from end until : ℕ) (verdict : CutsVerdict) → goes_on ≡ on → run ≡ same → first ≡ from
    → end ≡ until → IsCutsVerdict goes_on run asked first end verdict → IsCutsVerdict on same asked from until verdict
cuts_as asked goes_on on run same first from end until verdict e f g h is =
    subst (λ (b : Bool). IsCutsVerdict b same asked from until verdict) e
    (subst (λ (v : JudgeView). IsCutsVerdict goes_on v asked from until verdict) f
    (subst (λ (n : ℕ). IsCutsVerdict goes_on run asked n until verdict) g
    (subst (λ (n : ℕ). IsCutsVerdict goes_on run asked first n verdict) h is)))

from_there : (fj end m : ℕ) → fj ≤ m → min (max 0 fj) end ≤ m
from_there fj end m h = omega (arith, h)

-- the run comes to one end, so its trace is the one that was judged
all_stay : (s : Setup) (schedule : List Item) (judgement : JudgementView) (asked : RecoveryCuts) (trace : List Event) → HasTrace s schedule trace
    → PassBetween (IsJudgedWith (most_of asked) (view_of s judgement trace)) (judged_from trace 0 (length trace + 1)) (length trace + 1)
    → StaysRecovered s schedule judgement asked
all_stay s schedule judgement asked trace is passes end moment runs from within =
    let one_end : is.end ≡ end = runs_once (start_of s) (all_steps schedule) is.end end is.run runs in
    let same : trace ≡ trace_in end.common = is.trace_is ∙ ap (λ (c : Config). trace_in c.common) one_end in
    let all : PassBetween (IsJudgedWith (most_of asked) (view_of s judgement (trace_in end.common))) (judged_from (trace_in end.common) 0 (length (trace_in end.common) + 1))
    (length (trace_in end.common) + 1) = rw same at passes in
    let here = all moment (from_there (first_judged (trace_in end.common)) (length (trace_in end.common) + 1) moment from) (omega arith) in record {
      source = here.source;
      is_source = here.is_source;
      answers = elim here.judged [
        | inl long ↦ absurd (let never : ◌≡◌ {A = MomentVerdict CutCause} moments.Pass moments.TooLong = long.0 in cc)
        | inr passes ↦ passes.1
      ];
    }

pub stays_recovered : (s : Setup) (schedule : List Item) (judgement : JudgementView) (asked : RecoveryCuts) (first : ℕ) (last : Option ℕ) (trace : List Event) (goes_on : Bool)
    (verdict : CutsVerdict) → HasTrace s schedule trace
    → IsCutsVerdict goes_on (view_of s judgement trace) asked (judged_from trace first (end_of trace last)) (end_of trace last) verdict
    → (moments : ℕ) (images : Option ℕ) → verdict ≡ Pass moments images → first ≡ 0 → last ≡ None → StaysRecovered s schedule judgement asked
stays_recovered s schedule judgement asked first last trace goes_on verdict is judged moments images passed zero all =
    let whole : IsCutsVerdict goes_on (view_of s judgement trace) asked (judged_from trace 0 (length trace + 1)) (length trace + 1) (Pass moments images) =
    rw (passed, zero, all) at judged in
    all_stay s schedule judgement asked trace is whole.2

-- no cut in recovery is always looked at
none_allowed : (asked : RecoveryCuts) → IsAllowed (most_of asked) 0
none_allowed (AtMost most) = omega arith
none_allowed Any = tt

pub always_recovered : (s : Setup) (schedule : List Item) (judgement : JudgementView) (asked : RecoveryCuts) → StaysRecovered s schedule judgement asked
    → AlwaysRecovers s schedule judgement
always_recovered s schedule judgement asked stays end moment cut runs from within is_cut =
    let view = view_of s judgement (trace_in end.common) in
    let right = stays end moment runs from within in
    let well = right.answers 0 (image view.start (number_in cut) (at_moment view.events moment)) None (none_allowed asked)
    (record { cut = cut; bounds = is_cut; bytes = refl }, refl) in
    record { source = right.source; is_source = right.is_source; right = (well.bytes, well.answers, well.is_right) }
