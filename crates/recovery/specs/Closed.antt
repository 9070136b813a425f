-- Boxes out of which no power cut in recovery leads.
-- This project's own.
use Rattle.std.specs.Prelude.{◌≡◌, ◌⊎◌, ℕ, ◌+◌, ◌<◌, ◌≤◌, List, [], ◌∷◌, Option, None}
use Rattle.std.specs.List.{AllByRecursion}
use Rattle.program.specs.Sections.{Sections}
use Rattle.recovery.specs.Boxes.{IsIn}
use Rattle.recovery.specs.Cuts.{AnswersWell, IsCutOf}

-- images that so many cuts in recovery leave, and what was shown before them, if anything was
pub record BoundBox : Type 0 where
  pub images : List (List (List ℕ))
  pub shown : Option (List ℕ)
  pub cuts : ℕ

-- An image that so many cuts leave is in a box that as many or fewer leave. What was shown before it was shown before the box too; where nothing was,
-- something may have been: who answers as before answers rightly.
pub record Covers (box : BoundBox) (cuts : ℕ) (image : List (List ℕ)) (shown : Option (List ℕ)) : Type 0 where
  pub soon : box.cuts ≤ cuts
  pub inside : IsIn box.images image
  pub bound : (shown ≡ None) ⊎ (shown ≡ box.shown)

abbrev pub IsCovered : List BoundBox → ℕ → List (List ℕ) → Option (List ℕ) → Type 0
IsCovered [] cuts image shown = ⊥
IsCovered (box ∷ boxes) cuts image shown = Covers box cuts image shown ⊎ IsCovered boxes cuts image shown

-- the routine has a right answer on each image of the box, and the one that was shown before where one was
abbrev pub IsWell : Sections → ℕ → (List ℕ → Type 0) → BoundBox → Type 0
IsWell program steps right box = (image : List (List ℕ)) → IsIn box.images image → AnswersWell program steps right image box.shown

-- what a further cut leaves of an image of the box is covered
abbrev pub IsFollowed : Sections → ℕ → List BoundBox → BoundBox → Type 0
IsFollowed program steps boxes box = (image left : List (List ℕ)) (shown : Option (List ℕ)) → IsIn box.images image
    → IsCutOf program steps image box.shown left shown → IsCovered boxes (box.cuts + 1) left shown

-- all is well in boxes that up to so many cuts leave, and those before the last of these don't lead out of the boxes
abbrev pub AreClosedTo : Sections → ℕ → (List ℕ → Type 0) → ℕ → List BoundBox → Type 0
AreClosedTo program steps right cuts boxes =
    AllByRecursion (λ box. (box.cuts ≤ cuts → IsWell program steps right box) × (box.cuts < cuts → IsFollowed program steps boxes box)) boxes

-- all is well, and no cut leads out of the boxes
abbrev pub AreClosed : Sections → ℕ → (List ℕ → Type 0) → List BoundBox → Type 0
AreClosed program steps right boxes = AllByRecursion (λ box. IsWell program steps right box × IsFollowed program steps boxes box) boxes
