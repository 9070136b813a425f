-- Which answers of the routine are right at a moment, and what is found of an image.
-- This project's own: a routine shows the structure as before or after the operation under way, as a reader that met no power cut
-- would have seen it.
use Rattle.std.specs.Prelude.{◌≡◌, ◌≢◌, ℕ, ◌+◌, ◌<◌, ◌≤◌, ◌==◌, ◌&&◌, ◌||◌, nat_le, Bool, true, List, Option, Some, None, Result, Ok, Err, slice_get, take}
use Rattle.std.specs.List.{Contains}
use Rattle.store_trace.specs.Marks.{ended}
use Rattle.routine_judge.specs.Images.{full_cut}
use Rattle.routine_judge.specs.SequentialRuns.{FittingShows, NoneFits}
use Rattle.routine_judge.specs.Views.{JudgeView, ProgramView, RightBy, own_moments, sequential_runs}
use Rattle.routine_judge.specs.Windows.{IsPendingOn, IsWindow}
use Rattle.program.specs.Sections.{Sections}
use Rattle.routine_judge.specs.declared.cause.Cause.{Cause}
use Rattle.routine_judge.specs.declared.cause.Cause.TheVariants.{Missing, Different, Full, Unmatched}
use Rattle.routine_judge.specs.declared.history.moments.Window.{Window}
use Rattle.routine_judge.specs.declared.history.moments.Window.TheVariants.{Itself, Either, Through}
use Rattle.recovery.specs.Images.{Answers, Asks, has_same_bytes}
use Rattle.verdict.specs.declared.branches.question.Question.{Question}
use Rattle.recovery.specs.declared.recovery_run.Cause as run
use Rattle.recovery.specs.declared.recovery_run.Cause.TheVariants.{Running}
use Rattle.store_trace.specs.History.{at_moment}
use Rattle.store_trace.specs.declared.event.Event.{Event}
use Rattle.store_trace.specs.declared.event.Event.TheVariants.{Store, Clean, Fence, Begin, End}
use Rattle.verdict.specs.CutImages.{image_at}

-- on the image of a cut of moment m the routine comes to this
abbrev pub Shows : JudgeView → ℕ → (ℕ → ℕ) → Result (List ℕ) run.Cause → Type 0
Shows view m cut found = Answers view.routine view.steps view.start (at_moment view.events m) cut found

-- and it asks these bytes of it
abbrev pub AsksOf : JudgeView → ℕ → (ℕ → ℕ) → List Question → Type 0
AsksOf view m cut questions = Asks view.routine view.steps view.start (at_moment view.events m) cut questions

-- in the images of moment m the bytes of a question are the same after two numbers of their line's stores
abbrev pub same_bytes : JudgeView → ℕ → Question → ℕ → ℕ → Bool
same_bytes view m q n o = has_same_bytes (λ cut. image_at view.start view.events m cut) q n o

-- on the full image of moment m it comes to this
abbrev pub ShowsFull : JudgeView → ℕ → Result (List ℕ) run.Cause → Type 0
ShowsFull view m found = Shows view m (full_cut view.events m) found

-- the hart that stores in this event
abbrev pub stored_by : Event → Option ℕ
stored_by (Store hart line offset width value) = Some hart
stored_by (Clean hart line) = None
stored_by (Fence hart) = None
stored_by (Begin hart op) = None
stored_by (End hart op) = None

-- event i, a store of the hart, changes what the routine comes to on the full image
pub record IsChangeBy (view : JudgeView) (i hart : ℕ) : Type 0 where
  pub event : Event
  pub is_event : slice_get view.events i ≡ Some event
  pub is_store : stored_by event ≡ Some hart
  pub before : Result (List ℕ) run.Cause
  pub after : Result (List ℕ) run.Cause
  pub shows_before : ShowsFull view i before
  pub shows_after : ShowsFull view (i + 1) after
  pub differ : before ≢ after

-- Event i changes it, and that has to last at moment m: an operation was pending then on its hart, and each one that was has ended by m.
pub record IsLasting (view : JudgeView) (m i : ℕ) : Type 0 where
  pub hart : ℕ
  pub changes : IsChangeBy view i hart
  pub op : ℕ
  pub pending : IsPendingOn view.events i hart op
  pub all_ended : (other : ℕ) → IsPendingOn view.events i hart other → Contains (ended (take m view.events)) other

-- `from` is the first of the moments from `first` on that lies behind each change which has to last at moment m
pub record IsFirstBehind (view : JudgeView) (m first from : ℕ) : Type 0 where
  pub order : first ≤ from
  pub behind : (i : ℕ) → IsLasting view m i → i < from
  pub least : (n : ℕ) → first ≤ n → ((i : ℕ) → IsLasting view m i → i < n) → from ≤ n

-- The window of moment m, without the moments before a change that has to last: what an operation did that has ended stays, also while
-- others are pending.
abbrev pub IsRightWindow : JudgeView → ℕ → Window → Type 0
IsRightWindow view m Itself = IsWindow view.events m Itself
IsRightWindow view m (Either before after) = IsWindow view.events m (Either before after)
IsRightWindow view m (Through from last) = (first : ℕ) × IsWindow view.events m (Through first last) × IsFirstBehind view m first from

-- whether moment i is one of those whose full images give the right answers of moment m, which has this window
abbrev pub is_among : Window → ℕ → ℕ → Bool
is_among Itself m i = i == m
is_among (Either before after) m i = (i == before) || (i == after)
is_among (Through first last) m i = nat_le first i && nat_le i last

-- Where the right answers of a moment come from: the full images of these moments of the run, or those of the sequential runs of a program
-- that fit these events.
pub data Source : Type 0 where
  of_moments : (ℕ → Bool) → Source
  of_sequential : ProgramView → List Event → Source

-- the moments of the window that moment m has
abbrev pub of_window : Window → ℕ → Source
of_window window m = of_moments (is_among window m)

-- a program over the run's medium, recovered by the routine
abbrev pub program_of : JudgeView → Sections → ℕ → ProgramView
program_of view program harts = record { program = program; medium = view.start; harts = harts; routine = view.routine; steps = view.steps }

-- the right answers of moment m come from there, where those full images give them
abbrev pub IsSourceBy : RightBy → JudgeView → ℕ → Source → Type 0
IsSourceBy own_moments view m source = (window : Window) × IsRightWindow view m window × (source ≡ of_window window m)
IsSourceBy (sequential_runs program harts) view m source = source ≡ of_sequential (program_of view program harts) (take m view.events)

-- so of the run
abbrev pub IsSource : JudgeView → ℕ → Source → Type 0
IsSource view m source = IsSourceBy view.right view m source

-- on one of these full images the routine comes to this
abbrev pub SourceShows : JudgeView → Source → Result (List ℕ) run.Cause → Type 0
SourceShows view (of_moments among) found = (i : ℕ) × (among i ≡ true) × ShowsFull view i found
SourceShows view (of_sequential program p) found = FittingShows program p found

-- the bytes are the answer on one of them
abbrev pub IsRightOf : JudgeView → Source → List ℕ → Type 0
IsRightOf view source bytes = SourceShows view source (Ok bytes)

-- the last of these moments, on whose full image the routine has no answer for this cause
pub record HasLastCause (view : JudgeView) (among : ℕ → Bool) (cause : run.Cause) : Type 0 where
  pub last : ℕ
  pub here : among last ≡ true
  pub later : (i : ℕ) → among i ≡ true → i ≤ last
  pub missing : ShowsFull view last (Err cause)

-- the cause that is told where the routine has an answer on none of them: on the last one's moment, or on some sequential run's it has none for it
abbrev pub HasCause : JudgeView → Source → run.Cause → Type 0
HasCause view (of_moments among) cause = HasLastCause view among cause
HasCause view (of_sequential program p) cause = FittingShows program p (Err cause)

-- there is no such full image
abbrev pub HasNoImage : JudgeView → Source → Type 0
HasNoImage view (of_moments among) = (i : ℕ) → ¬ (among i ≡ true)
HasNoImage view (of_sequential program p) = NoneFits program p

-- on one of them it runs on after all its steps
abbrev pub RunsOn : JudgeView → Source → Type 0
RunsOn view source = SourceShows view source (Err Running)

-- why an image is bad on which the routine comes to this, where these answers are right, and where none is, for such a cause or as there is no
-- full image
abbrev pub IsBadBy : (List ℕ → Type 0) → (run.Cause → Type 0) → Type 0 → (Result (List ℕ) run.Cause → Type 0) → Cause → Type 0
IsBadBy right missing no_image shows (Missing cause) = shows (Err cause)
IsBadBy right missing no_image shows Different = (bytes : List ℕ) × shows (Ok bytes) × (¬ right bytes) × ((other : List ℕ) × right other)
IsBadBy right missing no_image shows (Full cause) = (bytes : List ℕ) × shows (Ok bytes) × ((other : List ℕ) → ¬ right other) × missing cause
IsBadBy right missing no_image shows Unmatched = (bytes : List ℕ) × shows (Ok bytes) × no_image

-- what is found of it: that its answer is right, or why it is bad
abbrev pub IsFoundBy : (List ℕ → Type 0) → (run.Cause → Type 0) → Type 0 → (Result (List ℕ) run.Cause → Type 0) → Option Cause → Type 0
IsFoundBy right missing no_image shows None = (bytes : List ℕ) × shows (Ok bytes) × right bytes
IsFoundBy right missing no_image shows (Some cause) = IsBadBy right missing no_image shows cause

-- the same of the image of a cut of moment m, where the right answers come from there
abbrev pub IsFoundOf : JudgeView → Source → ℕ → (ℕ → ℕ) → Option Cause → Type 0
IsFoundOf view source m cut found = IsFoundBy (IsRightOf view source) (HasCause view source) (HasNoImage view source) (Shows view m cut) found
