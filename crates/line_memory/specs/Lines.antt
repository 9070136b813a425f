-- Persistent memory as lines of 64 bytes.
use Rattle.std.specs.Prelude.{ℕ, ◌/◌, ◌%◌, ◌≡◌, ◌<◌, ◌≤◌, List, [], length, replicate, slice_get, slice_index_or}
use Rattle.line_memory.specs.Memory.{Memory}

-- a line's bytes
abbrev pub line_at : List (List ℕ) → ℕ → List ℕ
line_at lines line = slice_index_or lines line []

-- each line has 64 bytes
pub record AreLines (lines : List (List ℕ)) : Type 0 where
  pub whole : (line : ℕ) → line < length lines → length (line_at lines line) ≡ 64

-- from 512 to 16,384 lines
pub record IsMedium (lines : List (List ℕ)) : Type 0 where
  pub least : 512 ≤ length lines
  pub most : length lines ≤ 16384
  pub each : AreLines lines

-- lines of zeros
unfoldable pub zero_lines : ℕ → List (List ℕ)
zero_lines count = replicate count (replicate 64 0)

-- the lines as a map from an address, counted from the start of the first, to its byte
unfoldable pub line_bytes : List (List ℕ) → Memory
line_bytes lines address = slice_get (line_at lines (address / 64)) (address % 64)
