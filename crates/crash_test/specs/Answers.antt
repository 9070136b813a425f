-- What a recovery routine answers on a crash image.
use Rattle.std.specs.Prelude.{◌≡◌, ℕ, List, Result}
use Rattle.crash_test.specs.Explaining.{HasImage}
use Rattle.crash_test.specs.Loading.{IsAnswerOn}
use Rattle.program.specs.Sections.{Sections}
use Rattle.recovery.specs.declared.recovery_run.Cause.{Cause}
use Rattle.store_trace.specs.Cut.{number_in}
use Rattle.store_trace.specs.History.{at_moment}
use Rattle.store_trace.specs.Image.{image}
use Rattle.store_trace.specs.declared.event.Event.{Event}
use Rattle.text.specs.declared.image_name.name.ImageName.{ImageName}

-- the cut of this name, of a moment of events, and the image that it leaves
pub record IsImageOf (start : List (List ℕ)) (events : List Event) (moment : ℕ) (name : ImageName) (cut : List (ℕ × ℕ)) (lines : List (List ℕ)) :
    Type 0 where
  pub has_image : HasImage events moment name cut
  pub lines_are : lines ≡ image start (number_in cut) (at_moment events moment)

-- the routine's run on it, of at most so many steps, comes to this
pub record IsAnswerAt (routine : Sections) (steps : ℕ) (start : List (List ℕ)) (events : List Event) (moment : ℕ) (name : ImageName)
    (found : Result (List ℕ) Cause) : Type 0 where
  pub cut : List (ℕ × ℕ)
  pub lines : List (List ℕ)
  pub is_image : IsImageOf start events moment name cut lines
  pub answers : IsAnswerOn routine lines steps found
