-- What a hash of the parts of a state is made of. A hash decides nothing: equal parts have equal ones.
use Rattle.std.specs.Prelude.{ℕ, zero, suc, ◌+◌, ◌*◌, ◌%◌, ◌^◌, ◌++◌, Bool, true, false, List, slice_index, slice_index_or}
use Rattle.std.specs.Hash.{HashWrites, slice, u64}
use Rattle.hart.specs.Registers.{register}
use Rattle.schedule_states.specs.declared.line_state.Content.{Content}
use Rattle.schedule_states.specs.declared.line_state.LineState.{LineState}
use Rattle.schedule_states.specs.declared.program_state.HartPart.{HartPart}
use Rattle.schedule_states.specs.declared.program_state.StateNumbers.{StateNumbers}

-- A sum with a further word, by the multiplier of Knuth's MMIX generator. Source: Knuth, The Art of Computer Programming, volume 2, section 3.3.4.
abbrev pub mixed : ℕ → ℕ → ℕ
mixed sum word = (sum * 6364136223846793005 % 2 ^ 64 + word) % 2 ^ 64

-- four and eight bytes from one on, the lowest first, as a number
abbrev pub half_of : List ℕ → ℕ → ℕ
half_of bytes at = slice_index bytes at + 256 * slice_index bytes (at + 1) + 65536 * (slice_index bytes (at + 2) + 256 * slice_index bytes (at + 3))

abbrev pub word_of : List ℕ → ℕ → ℕ
word_of bytes at = half_of bytes at + 4294967296 * half_of bytes (at + 4)

-- the bytes of a line, by eight, joined
abbrev pub joined_bytes : List ℕ → ℕ
joined_bytes bytes = mixed (mixed (mixed (mixed (mixed (mixed (mixed (word_of bytes 0) (word_of bytes 8)) (word_of bytes 16)) (word_of bytes 24)) (word_of bytes 32))
    (word_of bytes 40)) (word_of bytes 48)) (word_of bytes 56)

abbrev pub bytes_fed : List ℕ → HashWrites
bytes_fed bytes = u64 (joined_bytes bytes)

-- the first of some flags
abbrev pub bit : Bool → ℕ
bit true = 1
bit false = 0

abbrev pub joined_flags : List Bool → ℕ → ℕ
joined_flags flags zero = 0
joined_flags flags (suc n) = mixed (joined_flags flags n) (bit (slice_index_or flags n false))

abbrev pub flags_fed : List Bool → HashWrites
flags_fed flags = u64 (joined_flags flags 8)

abbrev pub content : Content → HashWrites
content c = bytes_fed c.bytes ++ flags_fed c.stays

abbrev pub line : LineState → HashWrites
line s = bytes_fed s.bytes ++ slice content s.others.items

-- a sum with the first registers
abbrev pub with_registers : ℕ → List ℕ → ℕ → ℕ
with_registers sum registers zero = sum
with_registers sum registers (suc n) = mixed (with_registers sum registers n) (register registers n)

abbrev pub part_fed : List ℕ → ℕ → ℕ → HashWrites
part_fed registers pc text = u64 (with_registers (mixed pc text) registers 32)

abbrev pub part : HartPart → HashWrites
part p = part_fed p.state.registers p.state.pc p.text

-- two numbers of a list as one
abbrev pub pair_at : List ℕ → ℕ → ℕ
pair_at numbers at = 4294967296 * slice_index numbers at + slice_index numbers (at + 1)

abbrev pub numbers : StateNumbers → HashWrites
numbers s = u64 (mixed (mixed (mixed (mixed (pair_at s.harts 0) (pair_at s.harts 2)) (pair_at s.harts 4)) (pair_at s.harts 6)) (4294967296 * s.memory + s.standing))
