-- The right answers as they are gathered.
use Rattle.std.specs.Prelude.{◌≡◌, ◌≢◌, ◌↔◌, ◌⊎◌, ℕ, true, false, List, [], Option, None, Some, Result, Ok, Err, IfSome}
use Rattle.std.specs.List.{Contains}
use Rattle.routine_judge.specs.RightAnswers.{HasCause, HasNoImage, IsRightOf, RunsOn, Source, of_window}
use Rattle.routine_judge.specs.SequentialRuns.{FittingShows, IsRightAfter, NoneFits}
use Rattle.routine_judge.specs.Views.{JudgeView, ProgramView}
use Rattle.routine_judge.specs.declared.cause.Cause.{Cause}
use Rattle.routine_judge.specs.declared.cause.Cause.TheVariants.{Missing, Different, Full, Unmatched}
use Rattle.routine_judge.specs.declared.right.RightAnswers.{RightAnswers}
use Rattle.recovery.specs.declared.recovery_run.Cause as run
use Rattle.recovery.specs.declared.recovery_run.Cause.TheVariants.{Running}
use Rattle.routine_judge.specs.declared.history.moments.Window.{Window}
use Rattle.routine_judge.specs.declared.history.moments.Window.TheVariants.{Itself, Either, Through}
use Rattle.store_trace.specs.declared.event.Event.{Event}

-- With what the routine comes to on one full image more: its answer is a right one, or why it has none is the last cause. It is told whether it
-- runs on.
abbrev pub IsAdded : Result (List ℕ) run.Cause → RightAnswers → RightAnswers → Type 0
IsAdded (Ok bytes) old new = ((other : List ℕ) → Contains new.answers.items other ↔ (Contains old.answers.items other ⊎ (other ≡ bytes)))
    × (new.last_cause ≡ old.last_cause) × (new.runs_on ≡ old.runs_on)
IsAdded (Err cause) old new = (new.answers ≡ old.answers) × (new.last_cause ≡ Some cause)
    × (new.runs_on ≡ true → (old.runs_on ≡ true) ⊎ (cause ≡ Running)) × (new.runs_on ≡ false → (old.runs_on ≡ false) × (cause ≢ Running))

-- what these right answers say of an image on which the routine comes to this
abbrev pub IsJudgedBy : RightAnswers → Result (List ℕ) run.Cause → Option Cause → Type 0
IsJudgedBy right (Err cause) found = found ≡ Some (Missing cause)
IsJudgedBy right (Ok bytes) None = Contains right.answers.items bytes
IsJudgedBy right (Ok bytes) (Some (Missing cause)) = ⊥
IsJudgedBy right (Ok bytes) (Some Different) = (¬ Contains right.answers.items bytes) × (right.answers.items ≢ [])
IsJudgedBy right (Ok bytes) (Some (Full cause)) = (right.answers.items ≡ []) × (right.last_cause ≡ Some cause)
IsJudgedBy right (Ok bytes) (Some Unmatched) = (right.answers.items ≡ []) × (right.last_cause ≡ None)

-- These are just the answers that are right. Where none is, a cause of that is kept, or there is no full image. It is told whether the routine
-- runs on on one.
pub record AreRight (right : List ℕ → Type 0) (missing : run.Cause → Type 0) (no_image runs_on : Type 0) (answers : RightAnswers) : Type 0 where
  pub each : (bytes : List ℕ) → Contains answers.answers.items bytes → right bytes
  pub all : (bytes : List ℕ) → right bytes → Contains answers.answers.items bytes
  pub cause : answers.answers.items ≡ [] → IfSome answers.last_cause missing
  pub none : answers.answers.items ≡ [] → answers.last_cause ≡ None → no_image
  pub on : answers.runs_on ≡ true → runs_on
  pub ends : answers.runs_on ≡ false → ¬ runs_on

-- those on the full images that such a source has
abbrev pub AreAnswers : JudgeView → Source → RightAnswers → Type 0
AreAnswers view source right = AreRight (IsRightOf view source) (HasCause view source) (HasNoImage view source) (RunsOn view source) right

-- those on the full images of the sequential runs of a program that fit these events
abbrev pub AreRightAfter : ProgramView → List Event → RightAnswers → Type 0
AreRightAfter view p right =
    AreRight (IsRightAfter view p) (λ cause. FittingShows view p (Err cause)) (NoneFits view p) (FittingShows view p (Err Running)) right

-- Those of a window that doesn't move with its moment are kept from one moment to the next.
abbrev pub AreKept : JudgeView → Window → RightAnswers → Type 0
AreKept view Itself right = Unit {0}
AreKept view (Either before after) right = AreAnswers view (of_window (Either before after) 0) right
AreKept view (Through first last) right = AreAnswers view (of_window (Through first last) 0) right
