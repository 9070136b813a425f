use Rattle.std.proofs.Common.{List, ℕ, ◌++◌, ap, codes, get_or}
use Rattle.std.specs.Prelude.{decimal}
use Rattle.durability.specs.declared.cut.Kept.{Kept}
use Rattle.report.specs.Json.{object_end}
use Rattle.report.specs.LossesJson.{event_object, kept_object}
use Rattle.report.proofs.LossesLines.{line_shown}
use Rattle.report.proofs.losses.json.tell_kept.Goals as goal
use Rattle.report.specs.Places.{origin_in}

pub loop-one-preserved : goal.loop-one-preserved
loop-one-preserved c =
    let one : Kept = get_or c.args.kept.now c.loop-one.one-index (record { line = 0; store = 0 }) in
    line_shown _ (kept_object (event_object (origin_in c.args.places.now) c.args.traced.now)) c.args.kept.now c.loop-one.one-index
    (record { line = 0; store = 0 }) _ _ _ c.loop-one-test.true c.loop-one.invariant
    (ap (λ (l : List ℕ). codes "{\"kind\":\"kept\",\"cache_line\":" ++ (decimal one.line ++ (codes ",\"store\":" ++ (l ++ object_end)))) c.named_event.ensures.json)
    c.in_ok-writeln.ensures.bytes
