use Rattle.std.proofs.Common.{List, ℕ, ◌++◌, ap, codes}
use Rattle.report.specs.LossesEvents.{event_text}
use Rattle.report.specs.Mends.{mend_line}
use Rattle.report.proofs.LossesLines.{line_shown}
use Rattle.report.proofs.losses.why.tell_mends.Goals as goal
use Rattle.report.specs.Places.{line_end, origin_in}

pub loop-one-preserved : goal.loop-one-preserved
loop-one-preserved c =
    line_shown _ (mend_line (event_text (origin_in c.args.places.now) c.args.traced.now)) c.args.mends.now c.loop-one.one-index _ _ _ _
    c.loop-one-test.true c.loop-one.invariant
    (ap (λ (l : List ℕ). codes "mend: " ++ (l ++ line_end)) c.named_mend-mend.ensures.text) c.in_ok-writeln.ensures.bytes
