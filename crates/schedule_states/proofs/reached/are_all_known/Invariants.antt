use Rattle.schedule_states.specs.Onward.{AreAllKnown}
use Rattle.schedule_states.proofs.reached.are_all_known.Given as goal

abbrev pub invariant-loop-hart : goal.invariant-loop-hart
invariant-loop-hart l = AreAllKnown l.hart l.turns
