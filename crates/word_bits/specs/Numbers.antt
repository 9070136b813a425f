-- Numbers. A register is a whole number below 2 ^ 64 and an instruction a word below 2 ^ 32; what the manuals
-- say of bits and of two's complement is said here of whole numbers.
-- Source: RISC-V Unprivileged ISA 20191213, chapter 2 (RV32I, "Immediate Encoding Variants") and chapter 5 (RV64I).
use Rattle.std.specs.Prelude.{ℕ, ℤ, pos, negsuc, ◌-◌, ◌/◌, ◌%◌, ◌^◌, ◌-ℤ◌, nat_lt, if◌then◌else◌}

-- the n bits of a word from bit `lo` upwards, as a number
abbrev pub field : ℕ → ℕ → ℕ → ℕ
field word lo n = word / 2 ^ lo % 2 ^ n

-- the two's complement value of the low n bits of x
abbrev pub signed : ℕ → ℕ → ℤ
signed x n = pos (x % 2 ^ n) -ℤ pos (if nat_lt (x % 2 ^ n) (2 ^ (n - 1)) then 0 else 2 ^ n)

-- a whole number as a register holds it: modulo 2 ^ 64
abbrev pub wrap : ℤ → ℕ
wrap (pos n) = n % 2 ^ 64
wrap (negsuc n) = 2 ^ 64 - 1 - n % 2 ^ 64
