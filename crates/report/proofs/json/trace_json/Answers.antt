use Rattle.std.proofs.Common.{◌++◌, codes, rules}
use Rattle.report.specs.Json.{event_members, numbered_object, object_end}
use Rattle.report.specs.Places.{origin_in}
use Rattle.report.proofs.Lines.{line_more, lines_then}
use Rattle.report.proofs.json.trace_json.Goals as goal

pub loop-index-preserved : goal.loop-index-preserved
loop-index-preserved c =
    line_more (λ number one. codes "{" ++ (event_members number one ++ object_end)) (origin_in c.args.places.now) c.args.traced.now
    c.loop-index.index _ _ _ _ c.loop-index-test.true c.placed.ensures c.loop-index.invariant (search rules)

pub returns : goal.returns
returns c =
    lines_then (numbered_object (origin_in c.args.places.now)) c.args.traced.now c.loop-index.index _ _ _ c.loop-index-test.false
    c.loop-index.invariant c.in_ok-writeln-2.ensures.bytes
