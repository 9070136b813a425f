use Rattle.std.proofs.Common.{◌≡◌, ◌++◌, map, take}
use Rattle.unfinished.specs.Causes.{cause_of}
use Rattle.unfinished.proofs.unfinished.note_operations.Given as goal

abbrev pub invariant-loop-number : goal.invariant-loop-number
invariant-loop-number l = l.causes.items ≡ l.initial.causes.items ++ map (cause_of l.events) (take l.number-index l.numbers)
