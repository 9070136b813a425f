use Rattle.std.proofs.Common.{arith}
use Rattle.machine.proofs.OneHart.{both_further}
use Rattle.machine.proofs.machine.Machine.make_rows.Goals as goal

pub returns-then-is_none-clause-runs : goal.returns-then-is_none-clause-runs
returns-then-is_none-clause-runs c =
    both_further c.args.self.now c.loop-made.self c.make_row-row.new.self c.args.hart c.loop-made.made c.make_row-row.result.steps c.loop-made.invariant.runs
    c.make_row-row.ensures.runs

pub loop-made-preserved : goal.loop-made-preserved
loop-made-preserved c = record {
  within = omega arith;
  runs = both_further c.args.self.now c.loop-made.self c.make_row-row.new.self c.args.hart c.loop-made.made c.make_row-row.result.steps
      c.loop-made.invariant.runs c.make_row-row.ensures.runs;
}
