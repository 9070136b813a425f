use Rattle.std.proofs.Common.{◌≡◌, ◌*◌, ℕ, List, length}
use Rattle.machine.specs.Decoded.{AreMixed}
use Rattle.machine.proofs.text_copy.decode_line.Given as goal

abbrev pub invariant-loop-word : goal.invariant-loop-word
invariant-loop-word l = (length l.decoded ≡ length l.fn.decoded)
    × ((before : List ℕ) → AreMixed l.text before (16 * l.fn.line) l.fn.decoded → AreMixed l.text before l.word l.decoded)
