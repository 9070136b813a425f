use Rattle.std.proofs.Common.{◌∙◌}
use Rattle.verdict.proofs.Edging.{full_all, full_more}
use Rattle.verdict.proofs.branches.run.Run.fill.Goals as goal

pub loop-line-preserved : goal.loop-line-preserved
loop-line-preserved g c =
    let e = c.in_ok-put.ensures in (
      full_more (g.R.Recovery.high c.args.recovery.now) c.args.lines.now c.loop-line.self.numbers c.put.new.self c.loop-line.line-index 0 c.stores.result
          c.loop-line-test.true c.stores.ensures c.loop-line.invariant.0 e.put,
      e.size ∙ c.loop-line.invariant.1,
    )

pub returns : goal.returns
returns g c = record {
  full = full_all (g.R.Recovery.high c.args.recovery.now) c.args.lines.now c.loop-line.self.numbers c.loop-line.line-index c.loop-line-test.false c.loop-line.invariant.0;
  size = c.loop-line.invariant.1;
}
