-- The crash images of a moment of events over a medium: how many there are, and the lines of one.
use Rattle.std.specs.Prelude.{◌≡◌, ℕ, ◌<◌, ◌≤◌, List, Option, Some, None, length, map}
use Rattle.crash_image.specs.declared.ImageFault.{ImageFault}
use Rattle.crash_image.specs.declared.ImageFault.TheVariants.{NoSuchMoment, NotACut, Memory}
use Rattle.crash_test.specs.Explaining.{HasImage}
use Rattle.crash_test.specs.declared.images.ImageLine.{ImageLine}
use Rattle.line_memory.specs.Lines.{line_at}
use Rattle.store_trace.specs.Cut.{cut_count, number_in}
use Rattle.store_trace.specs.Image.{image}
use Rattle.store_trace.specs.declared.crash_model.step.PersistenceStep.{PersistenceStep}
use Rattle.store_trace.specs.History.{at_moment}
use Rattle.store_trace.specs.declared.event.Event.{Event}
use Rattle.text.specs.declared.image_name.name.ImageName.{ImageName}

-- the number of cuts, and None where there are over 65,536
abbrev pub IsCutCount : List PersistenceStep → Option ℕ → Type 0
IsCutCount p None = 65536 < cut_count p
IsCutCount p (Some n) = (n ≡ cut_count p) × (n ≤ 65536)

-- a count of the images at a moment of these events
pub record CountsImages (events : List Event) (moment : ℕ) (count : Option ℕ) : Type 0 where
  pub within : moment ≤ length events
  pub counted : IsCutCount (at_moment events moment) count

-- why they aren't counted: there are fewer events
abbrev pub LacksMoment : List Event → ℕ → ImageFault → Type 0
LacksMoment events moment NoSuchMoment = length events < moment
LacksMoment events moment NotACut = ⊥
LacksMoment events moment Memory = Unit {0}

-- the lines of a cut, each with its bytes in an image
abbrev pub lines_of : List (List ℕ) → List (ℕ × ℕ) → List ImageLine
lines_of image cut = map (λ (entry : ℕ × ℕ). record { line = entry.0; bytes = line_at image entry.0 }) cut

-- those of the image of this name at a moment of events over these starting lines
pub record AreImageLines (start : List (List ℕ)) (events : List Event) (moment : ℕ) (name : ImageName) (lines : List ImageLine) : Type 0 where
  pub cut : List (ℕ × ℕ)
  pub has_image : HasImage events moment name cut
  pub all : lines ≡ lines_of (image start (number_in cut) (at_moment events moment)) cut
