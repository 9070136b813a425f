use Rattle.std.specs.Prelude.{◌<◌, ℕ}
use Rattle.schedule_states.specs.Ways.{IsMarked}
use Rattle.schedule_states.proofs.ways.first_unmarked.Given as goal

abbrev pub invariant-loop-number : goal.invariant-loop-number
invariant-loop-number l = (n : ℕ) → n < l.number → IsMarked l.marks n
