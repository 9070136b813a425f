-- The verdict on the images of a source, which has no trace. A cut gives each line a number, from its lowest to its highest; `asks`, `alike`
-- and `found` say of cuts what they say for the verdict on a moment.
-- Source: Vinter, USENIX ATC 2022: every crash image is recovered, and the state that shows is judged.
use Rattle.std.specs.Prelude.{◌≡◌, ℕ, Bool, true, false, Option, None, List, length}
use Rattle.verdict.specs.Branches.{AreOver, IsLeastBad, IsWithin}
use Rattle.verdict.specs.Edges.{AreTried, IsBadCut}
use Rattle.verdict.specs.Numbers.{number_over}
use Rattle.verdict.specs.declared.branches.question.Question.{Question}
use Rattle.verdict.specs.declared.images_verdict.ImagesVerdict.{ImagesVerdict}
use Rattle.verdict.specs.declared.images_verdict.ImagesVerdict.TheVariants as images

-- there are over 65,536 branches
abbrev pub AreTooMany : (Question → ℕ → ℕ → Bool) → ((ℕ → ℕ) → List Question → Type 0) → (ℕ → ℕ) → (ℕ → ℕ) → Type 0
AreTooMany alike asks low high = AreOver alike asks low high 65536

-- Each image is good, or this is the least bad cut and its cause, with a number for each line, where there aren't too many branches. Where there
-- are, and further images are tried, this is a bad cut, or the edge images of some lines are good. `further` says whether they are tried.
abbrev pub IsImagesVerdict : {Cause : Type 0} → Bool → (Question → ℕ → ℕ → Bool) → ((ℕ → ℕ) → List Question → Type 0) → ((ℕ → ℕ) → Option Cause → Type 0) →
    (ℕ → ℕ) → (ℕ → ℕ) → ℕ → ImagesVerdict Cause → Type 0
IsImagesVerdict further alike asks found low high lines images.Pass =
    (¬ AreTooMany alike asks low high) × ((k : ℕ → ℕ) → IsWithin low high k → found k None)
IsImagesVerdict further alike asks found low high lines (images.Bad numbers cause false) =
    (¬ AreTooMany alike asks low high) × IsLeastBad low high found (number_over low numbers.items) cause × (length numbers.items ≡ lines)
IsImagesVerdict further alike asks found low high lines (images.Bad numbers cause true) =
    AreTooMany alike asks low high × (further ≡ true) × IsBadCut found low high numbers.items cause × (length numbers.items ≡ lines)
IsImagesVerdict further alike asks found low high lines images.TooMany =
    AreTooMany alike asks low high × (further ≡ true → (tried : List ℕ) × AreTried asks found low high tried)
