use Rattle.std.proofs.Common.{List, ℕ, ◌++◌, ap, codes}
use Rattle.report.specs.LossesEvents.{event_text}
use Rattle.report.specs.Unpersisted.{outside_line}
use Rattle.report.proofs.LossesLines.{line_shown}
use Rattle.report.proofs.losses.unpersisted.tell_outside.Goals as goal
use Rattle.report.specs.Places.{line_end, origin_in}

pub loop-lost-preserved : goal.loop-lost-preserved
loop-lost-preserved c =
    line_shown _ (outside_line (event_text (origin_in c.args.places.now) c.args.traced.now)) c.args.outside.now c.loop-lost.lost-index _ _ _ _
    c.loop-lost-test.true c.loop-lost.invariant
    (ap (λ (l : List ℕ). codes "at the end: " ++ (l ++ line_end)) c.named_loss-loss.ensures.text) c.in_ok-writeln.ensures.bytes
