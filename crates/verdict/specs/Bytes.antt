-- Sets of the bytes of a line, as numbers: bit i stands for byte i.
-- This project's own.
use Rattle.std.specs.Prelude.{ℕ, ◌-◌, ◌*◌, ◌/◌, ◌%◌, ◌^◌, ◌==◌, Bool, bit_and, bit_xor}

abbrev pub has_byte : ℕ → ℕ → Bool
has_byte bytes i = (bytes / 2 ^ i) % 2 == 1

-- the bytes of an access of so many bytes, by its place in the line
abbrev pub access_bytes : ℕ → ℕ → ℕ
access_bytes offset width = (2 ^ width - 1) * 2 ^ offset

-- those of the bytes that aren't among others
abbrev pub without : ℕ → ℕ → ℕ
without bytes others = bit_xor bytes (bit_and bytes others)
