use Rattle.std.proofs.Common.{◌≡◌, ◌++◌, take}
use Rattle.unfinished.specs.Causes.{numbers_of}
use Rattle.unfinished.proofs.Loops.{others}
use Rattle.unfinished.proofs.operations.note_missing.Given as goal

abbrev pub invariant-loop-operation : goal.invariant-loop-operation
invariant-loop-operation l = l.numbers.items ≡ l.initial.numbers.items ++ others l.begun (numbers_of (take l.operation-index l.planned))
