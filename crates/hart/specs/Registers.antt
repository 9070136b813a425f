-- The integer registers, as the list of the values of x0 to x31.
-- Source: RISC-V Unprivileged ISA 20191213, chapter 2 ("Programmers' Model for Base Integer ISA") and chapter 5 (XLEN 64).
use Rattle.std.specs.Prelude.{ℕ, ◌-◌, ◌*◌, ◌==◌, if◌then◌else◌, List, slice_index, slice_set, replicate}

-- the value of a register: x0 reads as zero
abbrev pub register : List ℕ → ℕ → ℕ
register registers number = if number == 0 then 0 else slice_index registers number

-- the registers after a write: one to x0 is dropped
abbrev pub written : List ℕ → ℕ → ℕ → List ℕ
written registers number value = if number == 0 then registers else slice_set registers number value

-- at its start hart h has its stack pointer x2, its number in x10 and the base of persistent memory in x11
abbrev pub start_registers : ℕ → List ℕ
start_registers h = written (written (written (replicate 32 0) 2 (0x20_0000 - 4096 * h)) 10 h) 11 0x4000_0000
