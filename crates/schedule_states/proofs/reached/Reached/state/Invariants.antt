use Rattle.schedule_states.specs.Reaching.{ArePartsOf}
use Rattle.schedule_states.proofs.reached.Reached.state.Given as goal

abbrev pub invariant-loop-hart : goal.invariant-loop-hart
invariant-loop-hart g l = ArePartsOf l.self l.numbers l.hart l.harts.items
