-- The texts of a line table.
use Rattle.std.specs.Borrow.{Bor}
use Rattle.std.specs.Prelude.{ℕ, ◌+◌, ◌==◌, nat_lt, List, [], ◌∷◌, ◌++◌, drop, length, take, Option, Some, None, option_map, if◌then◌else◌}
use Rattle.std.specs.List.{before_first, fold, position}

-- the bytes up to the first zero, and those behind it
abbrev pub next_text : List ℕ → Option (List ℕ × List ℕ)
next_text bytes = option_map (λ (end : ℕ). (take end bytes, drop (end + 1) bytes)) (position (λ byte. byte == 0) bytes)

-- the bytes up to the first zero, or all where there is none
abbrev pub first_text : List ℕ → List ℕ
first_text bytes = before_first (λ byte. byte == 0) bytes

-- a path that is lent as the bytes that begin with it
abbrev pub known_path : Bor (List ℕ) → List ℕ
known_path path = first_text path.now

-- the text at a place of a string table whose last byte is a zero
abbrev pub text_from : List ℕ → ℕ → Option (List ℕ)
text_from strings at = if nat_lt at (length strings) then Some (first_text (drop at strings)) else None

-- what stands behind the last slash of a path: a slash, which is 47, begins it anew
abbrev pub base_with : List ℕ → ℕ → List ℕ
base_with name byte = if byte == 47 then [] else name ++ byte ∷ []

abbrev pub base_name : List ℕ → List ℕ
base_name path = fold base_with [] path
