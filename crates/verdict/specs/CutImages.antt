-- The images of cuts: how they are given to those who recover them, and which a moment of a trace has.
-- Source: Vinter, USENIX ATC 2022 (crash images), with each line free to stand after any number of its stores from its floor on.
use Rattle.std.specs.Prelude.{◌≡◌, ℕ, List, length}
use Rattle.store_trace.specs.History.{at_moment}
use Rattle.store_trace.specs.Image.{image}
use Rattle.store_trace.specs.declared.event.Event.{Event}
use Rattle.line_memory.specs.Lines.{IsMedium, line_at}
use Rattle.verdict.specs.Branches.{IsWithin}
use Rattle.verdict.specs.Numbers.{number_over}

-- the table has for each line its number in a cut, with 0 for a line at its lowest one
pub record AreNumbers (lines : ℕ) (low high : ℕ → ℕ) (numbers : List ℕ) : Type 0 where
  pub size : length numbers ≡ lines
  pub within : IsWithin low high (number_over low numbers)

-- images of one size, in which a line's number alone decides its bytes
pub record AreByLine (lines : ℕ) (image : (ℕ → ℕ) → List (List ℕ)) : Type 0 where
  pub count : (k : ℕ → ℕ) → length (image k) ≡ lines
  pub decides : (c k : ℕ → ℕ) (l : ℕ) → k l ≡ c l → line_at (image k) l ≡ line_at (image c) l

-- the image of a cut of the moment, over the starting lines
abbrev pub image_at : List (List ℕ) → List Event → ℕ → (ℕ → ℕ) → List (List ℕ)
image_at start events moment cut = image start cut (at_moment events moment)

-- every image of the moment is a medium
abbrev pub AreMedia : List (List ℕ) → List Event → ℕ → Type 0
AreMedia start events moment = (cut : ℕ → ℕ) → IsMedium (image_at start events moment cut)
