-- Which line of a source an address of its text comes from.
-- The lines before a line are listed with the last one first.
use Rattle.std.specs.Prelude.{◌≡◌, ℕ, ◌+◌, ◌-◌, ◌&&◌, nat_le, nat_lt, Bool, true, false, List, [], ◌∷◌, ◌++◌, length, Option, Some, None, if◌then◌else◌}
use Rattle.std.specs.List.{position_or_len}
use Rattle.asm_lex.specs.declared.asm_names.kinds.Section.{Section}
use Rattle.asm_lex.specs.declared.asm_names.kinds.Section.TheVariants.{Text, Data}
use Rattle.assemble.specs.declared.labels.Labels.{Labels}
use Rattle.assemble.specs.declared.position.Position.{Position}
use Rattle.assemble.specs.Places.{base_of, meaning_in, place_after, section_after, size_at, size_of}
use Rattle.assemble.specs.Faults.{NoneHas, early_code}
use Rattle.assemble.specs.Passes.{IsNext, IsPlaced}

abbrev pub is_text : Section → Bool
is_text Text = true
is_text Data = false

-- the line after these has a byte of text at this address
abbrev pub holds_text : List (List ℕ) → List ℕ → ℕ → Bool
holds_text earlier line address =
    is_text (section_after earlier) && nat_le (place_after earlier) address
    && nat_lt address (place_after earlier + size_at (place_after earlier) (meaning_in line))

-- the number, from 1, of the one of these lines that has a byte of text at this address, None where none has
unfoldable pub line_number : List (List ℕ) → ℕ → Option ℕ
line_number [] address = None
line_number (line ∷ earlier) address = if holds_text earlier line address then Some (length earlier + 1) else line_number earlier address

-- how many bytes of text there are through each of these lines, the first line's first
unfoldable pub text_ends : List (List ℕ) → List ℕ
text_ends [] = []
text_ends (line ∷ earlier) = text_ends earlier ++ size_of Text (line ∷ earlier) ∷ []

-- by these numbers: how many lines are before the first one through which there are more bytes of text than so many
abbrev pub lines_before : List ℕ → ℕ → ℕ
lines_before ends offset = position_or_len (λ end. nat_lt offset end) ends

-- the number of the line at so many bytes from the base of the text, and at an address
abbrev pub number_from : List ℕ → ℕ → Option ℕ
number_from ends offset = if nat_lt (lines_before ends offset) (length ends) then Some (lines_before ends offset + 1) else None

unfoldable pub number_at : List ℕ → ℕ → Option ℕ
number_at ends address = if nat_le (base_of Text) address then number_from ends (address - base_of Text) else None

-- the pass over the lines: no line before has a fault
pub record Numbering (source rest : List ℕ) (number : ℕ) (position : Position) (labels : Labels) (ends : List ℕ) : Type 0 where
  pub earlier : List (List ℕ)
  pub next : IsNext source rest number earlier
  pub placed : IsPlaced earlier position labels
  pub none : NoneHas (early_code (length source)) earlier
  pub ends_are : ends ≡ text_ends earlier
  pub each : length ends ≡ length earlier
