-- A box opened by a routine: the part of it on whose images the routine makes one run, and the others.
use Rattle.std.specs.Prelude.{◌≡◌, ◌⊎◌, ◌↔◌, ◌++◌, ℕ, Bool, List, [], ◌∷◌, Option, Some, None, Result}
use Rattle.program.specs.Sections.{Sections}
use Rattle.machine.specs.Replies.{trace_in}
use Rattle.machine.specs.Run.{Config}
use Rattle.recovery.specs.Answers.{answer}
use Rattle.recovery.specs.Asking.{asked}
use Rattle.recovery.specs.Boxes.{IsInOne, others_of}
use Rattle.recovery.specs.Parts.{IsOpenedBy, part_by}
use Rattle.recovery.specs.declared.recovery_run.Cause as run
use Rattle.routine_judge.specs.BoxViews.{first_image}
use Rattle.store_trace.specs.declared.event.Event.{Event}

-- the boxes of a list, and one more, where there is one
abbrev pub with_rest : List (List (List (List ℕ))) → Option (List (List (List ℕ))) → List (List (List (List ℕ)))
with_rest boxes None = boxes
with_rest boxes (Some rest) = boxes ++ rest ∷ []

-- a list of boxes has the images of another one and of these boxes
abbrev pub AreAdded : List (List (List (List ℕ))) → List (List (List (List ℕ))) → List (List (List (List ℕ))) → Type 0
AreAdded boxes old new = (image : List (List ℕ)) → IsInOne new image ↔ (IsInOne old image ⊎ IsInOne boxes image)

-- The routine's run on the first image of a box has these events and comes to this. The part has the images of the box that have the bytes which that
-- run asked; the list got those that don't.
pub record IsOpened (program : Sections) (steps : ℕ) (box part : List (List (List ℕ))) (events : List Event) (found : Result (List ℕ) run.Cause) (old new : List (List (List (List ℕ)))) : Type 0 where
  pub end : Config
  pub full : Bool
  pub opened : IsOpenedBy program steps box (first_image box) end full
  pub traces : events ≡ trace_in end.common
  pub comes : found ≡ answer end full
  pub keeps : part ≡ part_by box (first_image box) end
  pub others : AreAdded (others_of box (first_image box) (asked end.common.history)) old new
