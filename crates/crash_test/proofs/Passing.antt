-- What a pass says of the run.
use Rattle.std.proofs.Common.{◌≡◌, ℕ, ◌+◌, Bool, List, Option, None, length, ap, ◌∙◌, arith}
use Rattle.image_check.specs.Verdicts.{PassBetween, judged_at}
use Rattle.verdict.specs.GoingOn.{IsVerdictOn}
use Rattle.verdict.specs.Rows.{end_of}
use Rattle.image_check.specs.declared.cause.Cause.{Cause}
use Rattle.verdict.specs.declared.moment_verdict.verdict.Verdict.{Verdict}
use Rattle.verdict.specs.declared.moment_verdict.verdict.Verdict.TheVariants.{Pass}
use Rattle.machine.specs.Replies.{trace_in}
use Rattle.machine.proofs.Determined.{runs_once}
use Rattle.machine.specs.Run.{Config}
use Rattle.plan.specs.declared.operation.Operation.{Operation}
use Rattle.machine.specs.Steps.{all_steps}
use Rattle.machine.specs.declared.schedule.items.Item.{Item}
use Rattle.store_trace.specs.declared.event.Event.{Event}
use Rattle.crash_test.specs.Checking.{AlwaysPasses}
use Rattle.machine.specs.RunValues.{start_of}
use Rattle.machine.specs.declared.recording.setup.Setup.{Setup}
use Rattle.crash_test.proofs.Running.{HasTrace}

-- the run comes to one end, so its trace is the one that was judged
all_moments : (plan : List Operation) (s : Setup) (schedule : List Item) (trace : List Event) → HasTrace s schedule trace
    → PassBetween plan s.medium trace 0 (length trace + 1) → AlwaysPasses plan s schedule
all_moments plan s schedule trace is passes end moment cut runs within is_cut =
    let one_end : is.end ≡ end = runs_once (start_of s) (all_steps schedule) is.end end is.run runs in
    let same : trace ≡ trace_in end.common = is.trace_is ∙ ap (λ (c : Config). trace_in c.common) one_end in
    let all : PassBetween plan s.medium (trace_in end.common) 0 (length (trace_in end.common) + 1) = rw same at passes in
    (all moment (omega arith) (omega arith)).1 cut is_cut

pub always_passes : (plan : List Operation) (s : Setup) (schedule : List Item) (first : ℕ) (last : Option ℕ) (trace : List Event)
    (goes_on : Bool) (verdict : Verdict Cause) → HasTrace s schedule trace
    → IsVerdictOn goes_on (judged_at plan s.medium trace) trace first (end_of trace last) verdict
    → (moments : ℕ) (images : Option ℕ) → verdict ≡ Pass moments images → first ≡ 0 → last ≡ None → AlwaysPasses plan s schedule
always_passes plan s schedule first last trace goes_on verdict is judged moments images passed zero all =
    let pass : IsVerdictOn goes_on (judged_at plan s.medium trace) trace 0 (length trace + 1) (Pass moments images) = rw (passed, zero, all) at judged in
    all_moments plan s schedule trace is pass.2
