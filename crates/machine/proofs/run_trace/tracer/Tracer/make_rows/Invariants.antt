use Rattle.std.proofs.Common.{◌≤◌, ◌-◌, replicate}
use Rattle.machine.specs.Represents.{RunsBoth}
use Rattle.machine.specs.Rows.{RunsBeforeEach}
use Rattle.machine.specs.Tracers.{Makes}
use Rattle.machine.specs.declared.schedule.items.Step.TheVariants.{Hart}
use Rattle.machine.proofs.run_trace.tracer.Tracer.make_rows.Given as goal

abbrev pub invariant-loop-made : goal.invariant-loop-made
invariant-loop-made l = record {
  within : l.made ≤ l.most;
  makes : Makes l.fn.self (replicate l.made (Hart l.hart)) l.self;
  runs : RunsBoth l.fn.self.machine l.self.machine (replicate l.made (Hart l.hart));
  running : RunsBeforeEach l.fn.self.machine l.hart l.made;
}

abbrev pub decreases-loop-made : goal.decreases-loop-made
decreases-loop-made l = l.most - l.made
