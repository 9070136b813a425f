-- What a judge of moments knows, one event further.
use Rattle.std.proofs.Common.{◌≡◌, ◌+◌, ◌<◌, Bool, true, List, length, get_or, take}
use Rattle.store_trace.specs.History.{at_moment}
use Rattle.store_trace.specs.declared.event.Event.{Event}
use Rattle.image_check.specs.Keeping.{KeepsPass}
use Rattle.image_check.specs.OrderFaults.{AreSound}
use Rattle.image_check.specs.RunViews.{RunView}
use Rattle.image_check.specs.Standing.{IsStanding}
use Rattle.image_check.specs.Verdicts.{AreFlagged, IsMomentVerdict}
use Rattle.image_check.specs.declared.moment_judge.Standing.{Standing}
use Rattle.verdict.specs.declared.moment_verdict.verdict.MomentVerdict.TheVariants as moments
use Rattle.image_check.proofs.Lasting.{kept_next}

-- a moment that is still known to pass after its next event
pub passed_next : (run : RunView) (flags : List Bool) (standing : Standing) (d : Event) → standing.moment < length run.events →
    AreSound run.plan run.events (length run.events) → IsStanding run flags standing → standing.passes ≡ true →
    KeepsPass flags (get_or run.events standing.moment d) →
    AreFlagged run.start (at_moment run.events (standing.moment + 1)) flags
    × IsMomentVerdict run.plan run.start (take (standing.moment + 1) run.events) moments.Pass
passed_next run flags standing d l sound is passes keeps =
    let pass = is.passed passes in
    kept_next run.plan run.start run.events standing.moment d flags l sound keeps pass.0 pass.1
