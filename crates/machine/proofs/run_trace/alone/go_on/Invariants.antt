use Rattle.std.proofs.Common.{◌≤◌, ◌-◌, replicate}
use Rattle.machine.specs.Rows.{RunsBeforeEach}
use Rattle.machine.specs.Tracers.{Makes}
use Rattle.machine.specs.declared.schedule.items.Step.TheVariants.{Hart}
use Rattle.machine.proofs.run_trace.alone.go_on.Given as goal

abbrev pub invariant-loop-made : goal.invariant-loop-made
invariant-loop-made l = record {
  within : l.made ≤ l.most;
  makes : Makes l.fn.tracer (replicate l.made (Hart l.hart)) l.tracer;
  running : RunsBeforeEach l.fn.tracer.machine l.hart l.made;
}

abbrev pub decreases-loop-made : goal.decreases-loop-made
decreases-loop-made l = l.most - l.made
