-- The rows that a line program makes. Source: DWARF 5, sections 6.2.2 and 6.2.5.
use Rattle.std.specs.Prelude.{ℕ, ℤ, pos, ◌+ℤ◌, int_le, int_lt, ◌&&◌, ◌+◌, ◌-◌, ◌*◌, ◌/◌, ◌%◌, ◌^◌, ◌==◌, List, [], ◌∷◌, ◌++◌, Option, Some, None, true, false, if◌then◌else◌, nat_lt, nat_abs, option_and_then, option_map, zero, suc, take, drop, length}
use Rattle.elf_file.specs.Numbers.{fixed_at, signed_at, unsigned_at}
use Rattle.elf_file.specs.declared.lines.opcodes.Coding.{Coding}
use Rattle.elf_file.specs.declared.lines.opcodes.Registers.{Registers}
use Rattle.elf_file.specs.declared.lines.opcodes.Row.{Row}

-- what an opcode makes: the registers behind it, and a row at most; and the bytes behind it
abbrev pub Made : Type 0
Made = Option ((Registers × Option Row) × List ℕ)

-- the registers that each sequence begins with
abbrev pub fresh : Registers
fresh = record { address = 0; file = 1; line = 1 }

-- a row of the registers, and one that ends their sequence
abbrev pub row_of : Registers → Row
row_of registers = record { address = registers.address; file = registers.file; line = registers.line; ends = false }

abbrev pub end_of : Registers → Row
end_of registers = record { address = registers.address; file = registers.file; line = registers.line; ends = true }

-- the registers with an address that has moved; addresses have 64 bits
abbrev pub moved : Registers → ℕ → Registers
moved registers by = record { address = (registers.address + by) % 2 ^ 64; file = registers.file; line = registers.line }

-- those with a line that has moved, where it is from 0 to 2^32 - 1
abbrev pub within : Registers → ℤ → Option Registers
within registers line =
    if int_le (pos 0) line && int_lt line (pos (2 ^ 32)) then Some (record { address = registers.address; file = registers.file; line = nat_abs line }) else None

abbrev pub with_line : Registers → ℤ → Option Registers
with_line registers by = within registers (pos registers.line +ℤ by)

-- an opcode from 13 on, of this number from there, moves both, and makes a row
abbrev pub special : Coding → Registers → ℕ → List ℕ → Made
special coding registers number rest =
    option_map (λ after. ((after, Some (row_of after)), rest))
    (with_line (moved registers (number / coding.range * coding.least)) (coding.base +ℤ pos (number % coding.range)))

-- what stands in an extended opcode: DW_LNE_end_sequence (1), DW_LNE_set_address (2) of eight bytes, DW_LNE_define_file (3), which isn't
-- read, or another one, which is passed over
abbrev pub extended_in : Registers → List ℕ → List ℕ → Made
extended_in registers [] rest = None
extended_in registers (code ∷ inner) rest =
    if code == 1 then Some ((fresh, Some (end_of registers)), rest) else
    if code == 2 then (if length inner == 8
    then option_map (λ address. ((record { address = address.0; file = registers.file; line = registers.line }, None), rest)) (fixed_at 8 inner) else None) else
    if code == 3 then None else Some ((registers, None), rest)

-- its size, and so many bytes
abbrev pub extended : Registers → List ℕ → Made
extended registers bytes = option_and_then (λ size.
    if nat_lt (length size.1) size.0 then None else extended_in registers (take size.0 size.1) (drop size.0 size.1)) (unsigned_at bytes)

-- DW_LNS_copy (1), advance_pc (2), advance_line (3), set_file (4), const_add_pc (8) and fixed_advance_pc (9); the numbers of set_column (5) and
-- set_isa (12) are passed over, and negate_stmt (6), set_basic_block (7), set_prologue_end (10) and set_epilogue_begin (11) have none
abbrev pub standard : Coding → Registers → ℕ → List ℕ → Made
standard coding registers code rest =
    if code == 1 then Some ((registers, Some (row_of registers)), rest) else
    if code == 2 then option_map (λ by. ((moved registers (by.0 * coding.least), None), by.1)) (unsigned_at rest) else
    if code == 3 then option_and_then (λ by. option_map (λ after. ((after, None), by.1)) (with_line registers by.0)) (signed_at rest) else
    if code == 4 then option_map (λ file. ((record { address = registers.address; file = file.0; line = registers.line }, None), file.1)) (unsigned_at rest) else
    if code == 8 then Some ((moved registers (242 / coding.range * coding.least), None), rest) else
    if code == 9 then option_map (λ by. ((moved registers by.0, None), by.1)) (fixed_at 2 rest) else
    if code == 5 then option_map (λ number. ((registers, None), number.1)) (unsigned_at rest) else
    if code == 12 then option_map (λ number. ((registers, None), number.1)) (unsigned_at rest) else Some ((registers, None), rest)

unfoldable pub step : Coding → Registers → List ℕ → Made
step coding registers [] = None
step coding registers (code ∷ rest) =
    if nat_lt code 13 then (if code == 0 then extended registers rest else standard coding registers code rest) else special coding registers (code - 13) rest

abbrev pub listed : Option Row → List Row
listed None = []
listed (Some row) = row ∷ []

-- the rows of a program, of at most so many opcodes
abbrev pub rows_in : ℕ → Coding → Registers → List ℕ → Option (List Row)
rows_in n coding registers [] = Some []
rows_in zero coding registers (code ∷ rest) = None
rows_in (suc n) coding registers (code ∷ rest) =
    option_and_then (λ made. option_map (λ rows. listed made.0.1 ++ rows) (rows_in n coding made.0.0 made.1)) (step coding registers (code ∷ rest))

-- all of them: each opcode takes a byte at least
abbrev pub rows_of : Coding → List ℕ → Option (List Row)
rows_of coding bytes = rows_in (length bytes) coding fresh bytes
