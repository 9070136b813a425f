use Rattle.std.proofs.Common.{length}
use Rattle.machine.proofs.Said.{IsRead}
use Rattle.machine.proofs.schedule.reader.items.Given as goal

abbrev pub invariant-loop-word : goal.invariant-loop-word
invariant-loop-word l = IsRead l.text l.schedule l.rest

abbrev pub decreases-loop-word : goal.decreases-loop-word
decreases-loop-word l = length l.rest
