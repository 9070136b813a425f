use Rattle.std.proofs.Common.{◌≡◌, ◌++◌, replicate}
use Rattle.random_schedule.specs.Weaving.{with_evictions}
use Rattle.machine.specs.Steps.{all_steps}
use Rattle.machine.specs.declared.schedule.items.Step.TheVariants.{Hart}
use Rattle.random_schedule.proofs.weaving.weave_hart.Given as goal

abbrev pub invariant-loop-done : goal.invariant-loop-done
invariant-loop-done l = all_steps l.woven ≡ all_steps l.initial.woven ++ with_evictions l.made l.evictions (replicate l.done (Hart l.hart))
