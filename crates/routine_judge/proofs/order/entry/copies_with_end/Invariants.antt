use Rattle.std.proofs.Common.{◌≡◌, map, take}
use Rattle.routine_judge.specs.Order.{begun_of, with_end}
use Rattle.routine_judge.proofs.order.entry.copies_with_end.Given as goal

abbrev pub invariant-loop-entry : goal.invariant-loop-entry
invariant-loop-entry l = map begun_of l.copies.items ≡ map (with_end l.op) (map begun_of (take l.entry-index l.entries))
