use Rattle.std.specs.Prelude.{◌≡◌, length}
use Rattle.schedule_states.specs.Numbers.{AreKept}
use Rattle.schedule_states.specs.Reaching.{AreNumbersOf}
use Rattle.schedule_states.proofs.reached.numbers_of.Given as goal

abbrev pub invariant-loop-hart : goal.invariant-loop-hart
invariant-loop-hart l = AreKept l.initial.known l.known × AreNumbersOf l.known l.parts l.hart l.numbers × (length l.numbers ≡ 8)
