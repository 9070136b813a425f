-- How an input is read by lines: what is read ahead, and what is taken.
use Rattle.std.specs.Prelude.{◌≡◌, ◌<◌, ◌≤◌, ◌+◌, ◌++◌, ◌∷◌, ◌⊎◌, ⊤, ℕ, Bool, true, false, List, [], Option, length, slice_range, if◌then◌else◌}
use Rattle.std.specs.Io.KnownBytes.{Consumes, IsAtEnd}
use Rattle.debugger.specs.Dialogue.{IsLine, most_line}
use Rattle.debugger.specs.declared.sessions.input.Input.{Input}
use Rattle.debugger.specs.declared.sessions.input.Fit.{Fit}
use Rattle.debugger.specs.declared.sessions.input.Fit.TheVariants as fits
use Rattle.debugger.specs.declared.sessions.input.ReadLine.{ReadLine}

-- the bytes that were read and not yet taken
abbrev pub ahead_of : Input → List ℕ
ahead_of input = slice_range input.chunk input.taken input.filled

-- these bytes are taken of what was ahead and of what is read further
pub record Takes (old new : Input) (source source_then : Option (List ℕ)) (taken : List ℕ) : Type 0 where
  pub read : List ℕ
  pub reads : Consumes source source_then read
  pub bytes : ahead_of old ++ read ≡ taken ++ ahead_of new
  pub left : old.left ≡ new.left + length taken

-- no further byte is to be taken
abbrev pub IsOver : Input → Option (List ℕ) → Type 0
IsOver input source = ((ahead_of input ≡ []) × IsAtEnd source) ⊎ (input.left ≡ 0)

-- what is held of a line, of which no more is held than its limit
abbrev pub IsHeld : Fit → List ℕ → List ℕ → Type 0
IsHeld fits.Whole held whole = (whole ≡ held) × (length whole ≤ most_line)
IsHeld fits.TooLong held whole = (length held ≡ most_line) × (most_line < length whole)

-- what ends a line: its line end, or the end of the input
abbrev pub line_end : Bool → List ℕ
line_end is_last = if is_last then [] else 10 ∷ []

abbrev pub OverIf : Bool → Input → Option (List ℕ) → Type 0
OverIf true input source = IsOver input source
OverIf false input source = ⊤

-- a whole line is taken, and held as far as its limit
pub record ReadsLine (old new : Input) (source source_then : Option (List ℕ)) (read : ReadLine) (line : List ℕ) : Type 0 where
  pub whole : List ℕ
  pub is_line : IsLine whole
  pub held : IsHeld read.fit line whole
  pub takes : Takes old new source source_then (whole ++ line_end read.is_last)
  pub over : OverIf read.is_last new source_then
