use Rattle.report.specs.LossesJson.{event_object, lost_object}
use Rattle.report.specs.Named.{due_members}
use Rattle.report.proofs.LossesLines.{line_more}
use Rattle.report.proofs.losses.json.tell_losses.Goals as goal
use Rattle.report.specs.Places.{origin_in}

pub loop-lost-preserved : goal.loop-lost-preserved
loop-lost-preserved c =
    line_more _ (lost_object (due_members c.args.due) (event_object (origin_in c.args.places.now) c.args.traced.now)) c.args.losses.now
    c.loop-lost.lost-index _ _ _ c.loop-lost-test.true c.loop-lost.invariant c.in_ok-tell_lost.ensures
