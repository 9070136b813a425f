-- What is known at the fence of a hart at place `at` once its cleans before `place` are completed.
use Rattle.std.specs.Prelude.{◌≡◌, ℕ, ◌+◌, ◌<◌, ◌≤◌, List, Bool, true, false, Option, Some, slice_get, slice_index_or, length, max}
use Rattle.store_trace.specs.Floor.{cleaned, floor}
use Rattle.store_trace.specs.History.{at_moment}
use Rattle.store_trace.specs.declared.event.Event.{Event}
use Rattle.store_trace.specs.declared.event.Event.TheVariants.{Fence}
use Rattle.durability.specs.Reading.{AreTold, HasWithin, IsCounted, IsToldAt}
use Rattle.durability.specs.declared.redundant.reading.LastClean.{LastClean}
use Rattle.durability.specs.declared.redundant.reading.LineState.{LineState}
use Rattle.durability.specs.declared.redundant.reason.Reason.{Reason}

-- line l has the floor that the fence gives it where the hart's last clean of it is completed, else the one that it had
pub record IsMet (events : List Event) (at hart place l : ℕ) (state : LineState) : Type 0 where
  pub counted : IsCounted events at l state
  pub met : (d : LastClean) → (slice_index_or state.cleans hart d).event ≤ place →
      state.floor ≡ max (floor l (at_moment events at)) (cleaned l hart (at_moment events at))
  pub unmet : (d : LastClean) → place < (slice_index_or state.cleans hart d).event → state.floor ≡ floor l (at_moment events at)

-- the events before `place` are told with the fence, and those from it on without it
pub record AreCompleted (events : List Event) (at hart place : ℕ) (lines : List LineState) (told : List (Option Reason)) (rises : Bool) : Type 0 where
  pub each : (l : ℕ) (d : LineState) → l < length lines → IsMet events at hart place l (slice_index_or lines l d)
  pub before : AreTold events (at + 1) place told
  pub after : (i : ℕ) (d : Option Reason) → place ≤ i → i < at → IsToldAt events at i (slice_index_or told i d)
  pub fence : slice_get events at ≡ Some (Fence hart)
  pub next : ¬ HasWithin events place at (Fence hart)
  pub rising : rises ≡ true → (l : ℕ) × (floor l (at_moment events at) < cleaned l hart (at_moment events at))
  pub still : rises ≡ false → (l : ℕ) (d : LineState) (e : LastClean) → l < length lines →
      (slice_index_or (slice_index_or lines l d).cleans hart e).event ≤ place →
      cleaned l hart (at_moment events at) ≤ floor l (at_moment events at)
