-- The lines of a text.
-- Source: this project's own format, of lines that end at a line feed.
use Rattle.std.specs.Prelude.{◌==◌, ℕ, Bool, List, [], ◌∷◌, filter, map}
use Rattle.std.specs.List.{before_first, slice_split}
use Rattle.text.specs.Words.{is_filled, words}

unfoldable pub is_line_end : ℕ → Bool
is_line_end byte = byte == 10

-- `#`, which begins a comment
unfoldable pub is_hash : ℕ → Bool
is_hash byte = byte == 35

-- a line end at the end of the text begins no line
abbrev pub without_empty_end : List (List ℕ) → List (List ℕ)
without_empty_end [] = []
without_empty_end ([] ∷ []) = []
without_empty_end (line ∷ rest) = line ∷ without_empty_end rest

abbrev pub lines : List ℕ → List (List ℕ)
lines text = without_empty_end (slice_split is_line_end text)

-- what lines say: the words of each line before its comment, but for lines without words
abbrev pub statements : List (List ℕ) → List (List (List ℕ))
statements all = filter is_filled (map (λ line. words (before_first is_hash line)) all)
