use Rattle.std.proofs.Common.{◌++◌, codes, decimal, rules}
use Rattle.report.specs.Events.{placed_text}
use Rattle.report.specs.Places.{line_end, origin_in}
use Rattle.report.proofs.Lines.{line_more}
use Rattle.report.proofs.events.trace_text.Goals as goal

pub loop-index-preserved : goal.loop-index-preserved
loop-index-preserved c =
    line_more (λ number one. decimal number ++ (codes " " ++ (placed_text one ++ line_end))) (origin_in c.args.places.now) c.args.traced.now
    c.loop-index.index _ _ _ _ c.loop-index-test.true c.placed-placed.ensures c.loop-index.invariant (search rules)
