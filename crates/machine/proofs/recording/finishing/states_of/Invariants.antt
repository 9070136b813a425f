use Rattle.std.proofs.Common.{◌≡◌, take}
use Rattle.machine.proofs.recording.finishing.states_of.Given as goal

abbrev pub invariant-loop-hart : goal.invariant-loop-hart
invariant-loop-hart l = l.states.items ≡ take l.hart l.machine.harts
