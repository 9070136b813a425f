use Rattle.schedule_states.specs.Successors.{AreStartParts}
use Rattle.schedule_states.proofs.parts.Parts.start.Given as goal

abbrev pub invariant-loop-hart : goal.invariant-loop-hart
invariant-loop-hart l = AreStartParts l.self l.hart l.parts.items
