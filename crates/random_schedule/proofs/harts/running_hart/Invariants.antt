use Rattle.std.proofs.Common.{◌≡◌, ◌+◌, length}
use Rattle.random_schedule.proofs.Running.{running_below}
use Rattle.random_schedule.proofs.harts.running_hart.Given as goal

abbrev pub invariant-loop-hart : goal.invariant-loop-hart
invariant-loop-hart l = length (running_below l.machine.harts l.hart) + l.left ≡ l.place
