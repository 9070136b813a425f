use Rattle.std.proofs.Common.{rules}
use Rattle.report.specs.LossesEvents.{event_text}
use Rattle.report.specs.Why.{kept_line}
use Rattle.report.proofs.LossesLines.{line_more}
use Rattle.report.proofs.losses.why.tell_kept.Goals as goal
use Rattle.report.specs.Places.{origin_in}

pub loop-one-preserved : goal.loop-one-preserved
loop-one-preserved c =
    line_more _ (kept_line (event_text (origin_in c.args.places.now) c.args.traced.now)) c.args.kept.now c.loop-one.one-index
    (record { line = 0; store = 0 }) _ _ c.loop-one-test.true c.loop-one.invariant (search rules)
