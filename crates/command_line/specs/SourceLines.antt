-- A line of a text, as it is printed of a refusal.
use Rattle.std.specs.Prelude.{ℕ, Bool, ◌-◌, ◌==◌, ◌||◌, List, Option, drop, slice_get, take}
use Rattle.std.specs.List.{prefix_len}
use Rattle.asm_lex.specs.Lines.{lines_of}

-- the line of this number, from 1; lines end at LF, which may have a CR before it
abbrev pub numbered_line : List ℕ → ℕ → Option (List ℕ)
numbered_line text number = slice_get (lines_of text) (number - 1)

-- a space or a tab
abbrev pub is_indent : ℕ → Bool
is_indent byte = (byte == 32) || (byte == 9)

-- a line from its first byte on that is neither, and of that at most 80 bytes
abbrev pub front_of_line : List ℕ → List ℕ
front_of_line line = take 80 (drop (prefix_len is_indent line) line)
