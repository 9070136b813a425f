use Rattle.std.proofs.Common.{◌≡◌, map, take}
use Rattle.routine_judge.specs.Order.{begun_of}
use Rattle.routine_judge.proofs.order.entry.copies.Given as goal

abbrev pub invariant-loop-entry : goal.invariant-loop-entry
invariant-loop-entry l = map begun_of l.copies.items ≡ map begun_of (take l.entry-index l.entries)
