-- A text decoded: of each word of its first lines the instruction that it spells, or the trap where it spells none.
use Rattle.std.specs.Prelude.{◌≡◌, ◌<◌, ◌≤◌, ◌*◌, ℕ, List, Result, Some, length, nat_lt, slice_index_or, if◌then◌else◌}
use Rattle.word_bits.specs.Bytes.{loaded}
use Rattle.isa_table.specs.declared.instruction.Instr.{Instr}
use Rattle.hart.specs.declared.state.Trap.{Trap}
use Rattle.hart.specs.Needs.{IsInstruction}

-- word k of a text, by its bytes
abbrev pub word_of : List ℕ → ℕ → ℕ
word_of bytes k = loaded bytes (4 * k) 4

-- each of the instructions is that of the word at its place
abbrev pub AreInstructions : List ℕ → List (Result Instr Trap) → Type 0
AreInstructions bytes decoded = (k : ℕ) (other : Result Instr Trap) → k < length decoded
    → IsInstruction (Some (word_of bytes k)) (slice_index_or decoded k other)

-- the words of the first lines of a text are decoded, of sixteen words each
pub record AreDecoded (bytes : List ℕ) (decoded : List (Result Instr Trap)) : Type 0 where
  pub lines : ℕ
  pub whole : length decoded ≡ 16 * lines
  pub within : lines ≤ 1024
  pub each : AreInstructions bytes decoded

-- each of the instructions is that of the word at its place: below n of one text, from n on of another
abbrev pub AreMixed : List ℕ → List ℕ → ℕ → List (Result Instr Trap) → Type 0
AreMixed text before n decoded = (k : ℕ) (other : Result Instr Trap) → k < length decoded
    → IsInstruction (Some (word_of (if nat_lt k n then text else before) k)) (slice_index_or decoded k other)
