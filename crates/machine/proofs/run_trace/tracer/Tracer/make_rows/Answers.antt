use Rattle.std.proofs.Common.{arith}
use Rattle.machine.proofs.OneHart.{both_further, makes_more_alone, running_further}
use Rattle.machine.proofs.run_trace.tracer.Tracer.make_rows.Goals as goal

pub returns-then-is_none-clause-made : goal.returns-then-is_none-clause-made
returns-then-is_none-clause-made c =
    makes_more_alone c.args.self.now c.loop-made.self c.make_row-row.new.self c.args.hart c.loop-made.made c.make_row-row.result.steps
    c.loop-made.invariant.makes c.make_row-row.ensures.made

pub returns-then-is_none-clause-running : goal.returns-then-is_none-clause-running
returns-then-is_none-clause-running c =
    running_further c.args.self.now.machine c.loop-made.self.machine c.args.hart c.loop-made.made c.make_row-row.result.steps
    c.loop-made.invariant.running c.loop-made.invariant.runs.runs c.make_row-row.ensures.running

pub loop-made-preserved : goal.loop-made-preserved
loop-made-preserved c = record {
  within = omega arith;
  makes = makes_more_alone c.args.self.now c.loop-made.self c.make_row-row.new.self c.args.hart c.loop-made.made c.make_row-row.result.steps
      c.loop-made.invariant.makes c.make_row-row.ensures.made;
  runs = both_further c.args.self.now.machine c.loop-made.self.machine c.make_row-row.new.self.machine c.args.hart c.loop-made.made
      c.make_row-row.result.steps c.loop-made.invariant.runs c.make_row-row.ensures.runs;
  running = running_further c.args.self.now.machine c.loop-made.self.machine c.args.hart c.loop-made.made c.make_row-row.result.steps
      c.loop-made.invariant.running c.loop-made.invariant.runs.runs c.make_row-row.ensures.running;
}
