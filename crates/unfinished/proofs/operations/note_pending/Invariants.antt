use Rattle.std.proofs.Common.{◌≡◌, take}
use Rattle.unfinished.proofs.Loops.{others}
use Rattle.unfinished.proofs.operations.note_pending.Given as goal

abbrev pub invariant-loop-op : goal.invariant-loop-op
invariant-loop-op l = l.numbers.items ≡ others l.ended (take l.op-index l.begun)
