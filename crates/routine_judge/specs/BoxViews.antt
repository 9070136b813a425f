-- A box as it is kept: a medium, and of some of its lines other contents.
use Rattle.std.specs.Prelude.{◌≡◌, ℕ, ◌<◌, ◌≤◌, List, [], ◌∷◌, Option, Some, None, length, map, slice_index_or}
use Rattle.std.specs.List.{AllByRecursion}
use Rattle.recovery.specs.Boxes.{AreWhole, IsIn}

-- of each line the contents that were put there, else that of the medium alone
abbrev pub spread : List (List ℕ) → List (Option (List (List ℕ))) → List (List (List ℕ))
spread [] table = []
spread (line ∷ lines) [] = (line ∷ []) ∷ spread lines []
spread (line ∷ lines) (None ∷ table) = (line ∷ []) ∷ spread lines table
spread (line ∷ lines) (Some contents ∷ table) = contents ∷ spread lines table

-- each line has a content
abbrev pub AreFilled : List (List (List ℕ)) → Type 0
AreFilled box = AllByRecursion (λ contents. 0 < length contents) box

-- each image of the box is a medium, of 512 to 16,384 lines of 64 bytes, and it has an image
pub record IsBoxOfMedia (box : List (List (List ℕ))) : Type 0 where
  pub least : 512 ≤ length box
  pub most : length box ≤ 16384
  pub whole : AreWhole box
  pub filled : AreFilled box

-- the image that has the first content of each line
abbrev pub first_image : List (List (List ℕ)) → List (List ℕ)
first_image box = map (λ contents. slice_index_or contents 0 []) box

-- what is left of a box that falls apart: this box, or none where it has no image
abbrev pub IsRest : List (List (List ℕ)) → Option (List (List (List ℕ))) → Type 0
IsRest box None = (image : List (List ℕ)) → ¬ IsIn box image
IsRest box (Some rest) = rest ≡ box
