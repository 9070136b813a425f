-- What lists of held lines hold of the medium.
use Rattle.std.specs.Prelude.{◌≡◌, ℕ, List, Some, length, slice_get}
use Rattle.schedule_states.specs.HeldLines.{AreBelow, on_medium}
use Rattle.schedule_states.specs.States.{PartsView}
use Rattle.schedule_states.specs.declared.held_lines.HeldLine.{HeldLine}

-- what a contract sees of them: lists of lines of the medium, by their numbers, and for the first lists of a search the numbers of theirs
pub record MediaView : Type 0 where
  pub lists : List (List HeldLine)
  pub numbers : List ℕ

-- the list of this number is what the one of a search holds of the medium
pub record IsOnMedium (parts : PartsView) (lists : List (List HeldLine)) (memory number : ℕ) : Type 0 where
  pub held : List HeldLine
  pub found : slice_get parts.lists memory ≡ Some held
  pub here : slice_get lists number ≡ Some (on_medium held)

-- each number is that of what the list of a search holds of the medium, and each list holds lines by numbers of states that are there
pub record AreOnMedium (parts : PartsView) (media : MediaView) : Type 0 where
  pub below : (n : ℕ) (held : List HeldLine) → slice_get media.lists n ≡ Some held → AreBelow (length parts.table.states) held
  pub each : (memory number : ℕ) → slice_get media.numbers memory ≡ Some number → IsOnMedium parts media.lists memory number
