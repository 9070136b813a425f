-- What the routine comes to on the full images of some moments in a row, and from when on each change of that has to last.
use Rattle.std.specs.Prelude.{◌≡◌, ◌≢◌, ◌↔◌, ◌⊎◌, ℕ, ◌+◌, ◌<◌, ◌≤◌, Bool, true, false, List, Result, length, slice_index, slice_index_or}
use Rattle.routine_judge.specs.RightAnswers.{IsLasting, ShowsFull}
use Rattle.routine_judge.specs.Views.{JudgeView}
use Rattle.routine_judge.specs.declared.history.moments.Window.{Window}
use Rattle.routine_judge.specs.declared.history.moments.Window.TheVariants.{Itself, Either, Through}
use Rattle.routine_judge.specs.declared.span.SpanAnswers.{SpanAnswers}
use Rattle.recovery.specs.declared.recovery_run.Cause as run

-- on the full images of so many moments from `first` on the routine comes to this
abbrev pub AreFullAnswers : JudgeView → ℕ → List (Result (List ℕ) run.Cause) → Type 0
AreFullAnswers view first founds = (k : ℕ) (d : Result (List ℕ) run.Cause) → k < length founds → ShowsFull view (first + k) (slice_index_or founds k d)

-- whether what the routine comes to right behind event i differs from what it comes to right before it
pub record TellsChange (view : JudgeView) (i : ℕ) (changes : Bool) : Type 0 where
  pub before : Result (List ℕ) run.Cause
  pub after : Result (List ℕ) run.Cause
  pub shows_before : ShowsFull view i before
  pub shows_after : ShowsFull view (i + 1) after
  pub differ : changes ≡ true → before ≢ after
  pub same : changes ≡ false → before ≡ after

-- the change in event i has to last at the moments from n on; at none where n is 0
abbrev pub LastsFrom : JudgeView → ℕ → ℕ → Type 0
LastsFrom view i n = (m : ℕ) → m ≤ length view.events → ((0 < n) × (n ≤ m)) ↔ IsLasting view m i

-- so of the changes in the events from `first` on
abbrev pub AreLasting : JudgeView → ℕ → List ℕ → Type 0
AreLasting view first lasts = (k : ℕ) → k < length lasts → LastsFrom view (first + k) (slice_index lasts k)

-- `from` lies behind each of the first `count` changes, counted from `first` on, that has to last at moment m, and it is the first such moment
pub record IsBehind (lasts : List ℕ) (first m count from : ℕ) : Type 0 where
  pub within : from ≤ first + count
  pub behind : (k : ℕ) → k < count → 0 < slice_index lasts k → slice_index lasts k ≤ m → first + k < from
  pub least : (from ≡ first) ⊎ ((k : ℕ) × (k < count) × (0 < slice_index lasts k) × (slice_index lasts k ≤ m) × (from ≡ first + k + 1))

-- what is kept of a span of the run's moments
pub record IsSpan (view : JudgeView) (span : SpanAnswers) : Type 0 where
  pub founds : AreFullAnswers view span.first span.founds.items
  pub lasts : AreLasting view span.first span.lasts.items
  pub sizes : length span.founds.items ≤ length span.lasts.items + 1

-- the moments of the window are the last ones of the span, where it has several in a row
abbrev pub Covers : SpanAnswers → Window → Type 0
Covers span Itself = Unit {0}
Covers span (Either before after) = Unit {0}
Covers span (Through from last) = (span.first ≤ from) × (from ≤ last) × (span.first + length span.founds.items ≡ last + 1)
