use Rattle.std.proofs.Common.{◌≡◌, length}
use Rattle.random_schedule.specs.Evictions.{Draws, InTurn}
use Rattle.random_schedule.proofs.evictions.draw_from.Given as goal

abbrev pub invariant-loop-done : goal.invariant-loop-done
invariant-loop-done l = record {
  drawn : InTurn (Draws l.stores l.first l.steps) l.initial.numbers l.evictions.items l.numbers;
  count : length l.evictions.items ≡ l._done;
}
