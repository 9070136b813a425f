-- The words of a text, its first word, and what follows it.
use Rattle.std.specs.Prelude.{◌==◌, ◌||◌, ℕ, Bool, List, drop, filter, length, nat_lt, not, take}
use Rattle.std.specs.List.{position_or_len, slice_split}
use Rattle.text.specs.declared.words.Blanks.{Blanks}
use Rattle.text.specs.declared.words.Blanks.TheVariants.{Spaces, SpacesAndLineEnds}

unfoldable pub is_space : ℕ → Bool
is_space byte = byte == 32

-- a space or a line end
unfoldable pub is_blank : ℕ → Bool
is_blank byte = (byte == 32) || (byte == 10)

-- what parts words
abbrev pub parting : Blanks → ℕ → Bool
parting Spaces = is_space
parting SpacesAndLineEnds = is_blank

-- whether a list has elements
abbrev pub is_filled : {A : Type 0} → List A → Bool
is_filled list = nat_lt 0 (length list)

-- the parts of a text between its blanks, but for empty ones
abbrev pub parts : (ℕ → Bool) → List ℕ → List (List ℕ)
parts is_between text = filter is_filled (slice_split is_between text)

-- the words of a line
abbrev pub words : List ℕ → List (List ℕ)
words line = parts is_space line

-- the words of a text of lines
abbrev pub words_of_lines : List ℕ → List (List ℕ)
words_of_lines text = parts is_blank text

-- a text without the blanks in front
abbrev pub from_part : (ℕ → Bool) → List ℕ → List ℕ
from_part is_between text = drop (position_or_len (λ byte. not (is_between byte)) text) text

-- its first part, and what follows that
abbrev pub first_part : (ℕ → Bool) → List ℕ → List ℕ
first_part is_between text = take (position_or_len is_between (from_part is_between text)) (from_part is_between text)

abbrev pub behind_part : (ℕ → Bool) → List ℕ → List ℕ
behind_part is_between text = drop (position_or_len is_between (from_part is_between text)) (from_part is_between text)
