use Rattle.std.proofs.Common.{◌≡◌, length}
use Rattle.machine.specs.Decoded.{AreInstructions}
use Rattle.machine.proofs.text_copy.decode_lines.Given as goal

abbrev pub invariant-loop-word : goal.invariant-loop-word
invariant-loop-word l = (length l.decoded.items ≡ l.word) × AreInstructions l.text l.decoded.items
