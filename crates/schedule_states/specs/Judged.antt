-- How far the states of a search are judged.
use Rattle.std.specs.Prelude.{◌≡◌, ℕ, ◌<◌, ◌≤◌, List, None, length}
use Rattle.store_trace.specs.declared.event.Event.{Event}
use Rattle.schedule_states.specs.Covering.{ReachedView}
use Rattle.schedule_states.specs.Happening.{IsHappening}
use Rattle.schedule_states.specs.Judging.{AreGoodBelow, AreGoodMoments}
use Rattle.schedule_states.specs.Turns.{MayClaim}
use Rattle.schedule_states.specs.declared.moments.Judged.{Judged}

-- the first states that are judged are good, and so are the moments, up to one at which the search stops
pub record AreJudged {T : Type 0} (stands : T → List Event → Type 0) (good : List Event → List (List ℕ) → List (List ℕ) → Type 0) (r : ReachedView T) (judged : Judged) : Type 0 where
  pub moments : judged.stop ≡ None → AreGoodMoments stands good r judged.media judged.moments
  pub below : AreGoodBelow stands good r judged.good
  pub within : judged.good ≤ length r.states

-- what a judge asks of a state holds of each, and lines may be claimed
pub record CanBeJudged {T : Type 0} (stands : T → List Event → Type 0) (allows : List Event → ℕ → Type 0) (happens : List Event → List (List ℕ) → Type 0) (r : ReachedView T) : Type 0 where
  pub happened : (n : ℕ) → n < length r.states → IsHappening stands happens r n
  pub claims : MayClaim allows r.parts.claims
