-- The right answers of a moment, each with the moment that gives it.
use Rattle.std.specs.Prelude.{◌≡◌, ◌⊎◌, ℕ, ◌<◌, ◌≤◌, Bool, true, nat_le, List, [], ◌∷◌, ◌++◌, length, Ok}
use Rattle.std.specs.List.{All, AllPairs, Any}
use Rattle.routine_judge.specs.RightAnswers.{IsRightWindow, ShowsFull, is_among}
use Rattle.routine_judge.specs.Views.{JudgeView}
use Rattle.routine_judge.specs.declared.history.moments.Window.{Window}
use Rattle.routine_judge.specs.declared.right_moments.FullAnswers.{FullAnswers}
use Rattle.routine_judge.specs.declared.right_moments.RightAnswer.{RightAnswer}

-- it is these bytes
abbrev pub gives : List ℕ → RightAnswer → Type 0
gives bytes right = right.answer ≡ bytes

-- moment i is the least of some moments whose full image gives this answer
pub record IsLeastOf (view : JudgeView) (among : ℕ → Bool) (i : ℕ) (bytes : List ℕ) : Type 0 where
  pub here : among i ≡ true
  pub shows : ShowsFull view i (Ok bytes)
  pub least : (j : ℕ) → among j ≡ true → ShowsFull view j (Ok bytes) → i ≤ j

-- These are the answers on the full images of some moments, each once: with the least moment that gives it, upwards by these moments.
pub record AreGivenBy (view : JudgeView) (among : ℕ → Bool) (right : List RightAnswer) : Type 0 where
  pub upwards : AllPairs (λ (one other : RightAnswer). one.moment < other.moment) right
  pub each : All (λ (r : RightAnswer). IsLeastOf view among r.moment r.answer) right
  pub all : (i : ℕ) (bytes : List ℕ) → among i ≡ true → ShowsFull view i (Ok bytes) → Any (gives bytes) right

-- so those of the window of moment m
pub record AreRightAt (view : JudgeView) (m : ℕ) (right : List RightAnswer) : Type 0 where
  pub window : Window
  pub is_window : IsRightWindow view m window
  pub given : AreGivenBy view (is_among window m) right

-- i is a moment of the run
abbrev pub is_moment : JudgeView → ℕ → Bool
is_moment view i = nat_le i (length view.events)

-- These are the answers on the full images of all moments of the run, each once, and what the routine comes to on that of the last one.
pub record AreFullAnswers (view : JudgeView) (answers : FullAnswers) : Type 0 where
  pub given : AreGivenBy view (is_moment view) answers.given.items
  pub last : ShowsFull view (length view.events) answers.last

-- with one answer more, unless it is there
abbrev pub IsAddedOnce : RightAnswer → List RightAnswer → List RightAnswer → Type 0
IsAddedOnce given old new = (Any (gives given.answer) old × (new ≡ old)) ⊎ ((¬ Any (gives given.answer) old) × (new ≡ old ++ given ∷ []))
