-- What the scanner's steps find, by places in the bytes.
use Rattle.std.specs.Prelude.{◌≡◌, ℕ, ◌<◌, ◌≤◌, Bool, false, List, [], ◌∷◌, length, take, drop}
use Rattle.std.specs.List.{slice_range, AllPass}
use Rattle.asm_lex.specs.Pieces.{is_blank, pieces}

-- the next byte is a blank
abbrev pub begins_blank : List ℕ → Bool
begins_blank [] = false
begins_blank (b ∷ bs) = is_blank b

-- the bytes begin with a piece of this length
pub record BeginsWithPiece (bytes : List ℕ) (len : ℕ) : Type 0 where
  pub nonempty : 0 < len
  pub in_range : len ≤ length bytes
  pub cut : pieces bytes ≡ take len bytes ∷ pieces (drop len bytes)

-- after a place, the line's next piece stands from start to end, with only blanks before it
pub record IsNextPiece (line : List ℕ) (from start end : ℕ) : Type 0 where
  pub after : from ≤ start
  pub nonempty : start < end
  pub in_range : end ≤ length line
  pub blanks : AllPass is_blank (slice_range line from start)
  pub cut : pieces (drop from line) ≡ slice_range line start end ∷ pieces (drop end line)
