-- Where the bytes of a source's lines stand in its object.
use Rattle.std.specs.Prelude.{◌≡◌, ℕ, ◌+◌, List, ◌++◌, length}
use Rattle.program.specs.Sections.{Sections}
use Rattle.assemble.specs.Assembly.{bytes_in}
use Rattle.assemble.specs.Places.{base_of, section_after, place_after}
use Rattle.assemble.specs.SourceLines.{Values, IsSourceLine}

-- a line after these has its bytes, and they stand in its section as far from the start as its place is from the section's base
pub record LineStands (values : Values) (earlier : List (List ℕ)) (line : List ℕ) (object : Sections) : Type 0 where
  pub bytes : List ℕ
  pub is_line : IsSourceLine (section_after earlier) (place_after earlier) values line bytes
  pub front : List ℕ
  pub rest : List ℕ
  pub stands : bytes_in (section_after earlier) object ≡ front ++ bytes ++ rest
  pub place : place_after earlier ≡ base_of (section_after earlier) + length front
