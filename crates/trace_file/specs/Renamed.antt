-- A cut's line by its name.
use Rattle.std.specs.Prelude.{ℕ, List, slice_index}

-- a line by its rank, with its number: the same under the line's name
abbrev pub named_entry : List ℕ → ℕ × ℕ → ℕ × ℕ
named_entry names entry = (slice_index names entry.0, entry.1)
