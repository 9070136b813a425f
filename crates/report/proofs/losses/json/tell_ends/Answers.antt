use Rattle.report.specs.LossesJson.{end_object, event_object}
use Rattle.report.proofs.LossesLines.{line_more}
use Rattle.report.proofs.losses.json.tell_ends.Goals as goal
use Rattle.report.specs.Places.{origin_in}

pub loop-loss-preserved : goal.loop-loss-preserved
loop-loss-preserved c =
    line_more _ (end_object (event_object (origin_in c.args.places.now) c.args.traced.now)) c.args.ends.now c.loop-loss.loss-index _ _ _
    c.loop-loss-test.true c.loop-loss.invariant c.in_ok-tell_lost.ensures
