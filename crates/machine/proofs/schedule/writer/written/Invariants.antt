use Rattle.std.proofs.Common.{length, string_bytes}
use Rattle.machine.proofs.Texts.{IsWriting}
use Rattle.machine.proofs.schedule.writer.written.Given as goal

abbrev pub invariant-loop-item : goal.invariant-loop-item
invariant-loop-item l = IsWriting l.items (string_bytes l.text) l.rest

abbrev pub decreases-loop-item : goal.decreases-loop-item
decreases-loop-item l = length l.rest
