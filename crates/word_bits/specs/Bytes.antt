-- Numbers as bytes in memory, the least significant byte first.
-- Source: RISC-V Unprivileged ISA 20191213, chapter 2 ("Load and Store Instructions", little-endian).
use Rattle.std.specs.Prelude.{ℕ, ◌+◌, ◌*◌, List, ◌++◌, take, drop, length, slice_index, zero, suc}
use Rattle.std.specs.Int.{bytes_low_first}

-- the bytes with `new` in the place of those from `at` on
abbrev pub replaced : List ℕ → ℕ → List ℕ → List ℕ
replaced bytes at new = take at bytes ++ (new ++ drop (at + length new) bytes)

-- the number that `width` bytes from place `at` on spell
abbrev pub loaded : List ℕ → ℕ → ℕ → ℕ
loaded bytes at zero = 0
loaded bytes at (suc width) = slice_index bytes at + 256 * loaded bytes (suc at) width

-- the bytes after the low `width` bytes of a value were stored from place `at` on
abbrev pub stored : List ℕ → ℕ → ℕ → ℕ → List ℕ
stored bytes at width value = replaced bytes at (bytes_low_first 0 width value)
