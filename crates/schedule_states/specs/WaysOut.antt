-- What is known of the ends of a program where all its states were met.
use Rattle.std.specs.Prelude.{ℕ, Bool, List, length}
use Rattle.machine.specs.Run.{Config}
use Rattle.store_trace.specs.declared.event.Event.{Event}
use Rattle.schedule_states.specs.Covering.{Covers, CoversAt, ReachedView}
use Rattle.schedule_states.specs.Ending.{AnyMayGo, AreEnds, AreTurnsBelow, CanEnd, IsStuckBehind}
use Rattle.schedule_states.specs.Leads.{AreOfHarts}
use Rattle.schedule_states.specs.Ways.{LeadsOut, walked}

-- an end can be reached from the state of number n
pub record HasWayOut {T : Type 0} (r : ReachedView T) (next : List (List ℕ)) (n : ℕ) : Type 0 where
  pub marks : List Bool
  pub ends : AreEnds r marks (length r.states)
  pub leads : LeadsOut next marks n

-- none can
pub record HasNone {T : Type 0} (r : ReachedView T) (next : List (List ℕ)) (n : ℕ) : Type 0 where
  pub marks : List Bool
  pub ends : AreEnds r marks (length r.states)
  pub leads : LeadsOut next marks n → ⊥

-- the requests are those of harts that are there, and lead from the first state to one from which no end can be reached
pub record LeadToNone {T : Type 0} (r : ReachedView T) (next : List (List ℕ)) (requests : List ℕ) : Type 0 where
  pub harts : AreOfHarts r.harts requests
  pub none : HasNone r next (walked next 0 requests)

-- from whatever a state stands for an end can be reached
abbrev pub EachCanEnd : {T : Type 0} → (T → List Event → Type 0) → ReachedView T → Type 0
EachCanEnd stands r = (c : Config) → Covers stands r c → CanEnd c

-- the turns of all states are noted, and any hart may always go
pub record AreAllTurns {T : Type 0} (stands : T → List Event → Type 0) (allows : List Event → ℕ → Type 0) (r : ReachedView T) (next : List (List ℕ)) : Type 0 where
  pub turns : AreTurnsBelow stands allows r next (length r.states)
  pub free : AnyMayGo allows

-- behind these requests none leads to an end from what the first state stands for
abbrev pub LeadsNowhere : {T : Type 0} → (T → List Event → Type 0) → ReachedView T → List ℕ → Type 0
LeadsNowhere stands r requests = (start : Config) → CoversAt stands r 0 start → IsStuckBehind requests start
