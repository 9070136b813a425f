use Rattle.std.proofs.Common.{List, ℕ, ◌++◌, ap, codes}
use Rattle.report.specs.Json.{object_end}
use Rattle.report.specs.LossesJson.{event_object}
use Rattle.report.specs.MendsJson.{mend_object}
use Rattle.report.proofs.LossesLines.{line_shown}
use Rattle.report.proofs.losses.json.tell_mends.Goals as goal
use Rattle.report.specs.Places.{origin_in}

pub loop-one-preserved : goal.loop-one-preserved
loop-one-preserved c =
    line_shown _ (mend_object (event_object (origin_in c.args.places.now) c.args.traced.now)) c.args.mends.now c.loop-one.one-index _ _ _ _
    c.loop-one-test.true c.loop-one.invariant
    (ap (λ (l : List ℕ). codes "{\"kind\":\"mend\"," ++ (l ++ object_end)) c.named_mend.ensures.json) c.in_ok-writeln.ensures.bytes
