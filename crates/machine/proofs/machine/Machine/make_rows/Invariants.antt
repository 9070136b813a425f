use Rattle.std.proofs.Common.{◌≤◌, ◌-◌, replicate}
use Rattle.machine.specs.Represents.{RunsBoth}
use Rattle.machine.specs.declared.schedule.items.Step.TheVariants.{Hart}
use Rattle.machine.proofs.machine.Machine.make_rows.Given as goal

abbrev pub invariant-loop-made : goal.invariant-loop-made
invariant-loop-made l = record {
  within : l.made ≤ l.most;
  runs : RunsBoth l.fn.self l.self (replicate l.made (Hart l.hart));
}

abbrev pub decreases-loop-made : goal.decreases-loop-made
decreases-loop-made l = l.most - l.made
