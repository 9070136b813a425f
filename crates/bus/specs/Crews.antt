-- The threads of a run, and what they come to.
use Rattle.std.specs.Prelude.{◌≡◌, ◌⊎◌, ◌++◌, ◌∷◌, [], ℕ, Bool, true, false, nat_le, if◌then◌else◌, List, All, Option, Some, None, length, map}
use Rattle.std.specs.List.{Contains, list_any}
use Rattle.atomic_table.specs.Seated.{TableId}
use Rattle.machine.specs.declared.shared_memory.fault.StepFault.{StepFault}
use Rattle.workers.specs.Stops.{Sitting, all_found, fresh}
use Rattle.bus.specs.declared.crew.Refusal.{Refusal}
use Rattle.bus.specs.Driving.{HasEnded, badge}
use Rattle.bus.specs.Seats.{SeatView}
use Rattle.bus.specs.Stepping.{IsStepRefusal}

-- what a thread began with: the number of its hart, how many steps it may make, and its place at the stop word
pub record BeganView : Type 0 where
  pub hart : ℕ
  pub budget : ℕ
  pub place : Sitting

abbrev pub badge_of : BeganView → ℕ × ℕ
badge_of b = (b.hart, b.budget)

-- of two refusals the one of the lower hart
abbrev pub lower_of : Option Refusal → ℕ → StepFault → Option Refusal
lower_of None hart fault = Some (record { hart = hart; fault = fault })
lower_of (Some r) hart fault = if nat_le r.hart hart then Some r else Some (record { hart = hart; fault = fault })

-- with what refused a hart, if anything did
abbrev pub noted : Option Refusal → ℕ → Option StepFault → Option Refusal
noted lowest hart None = lowest
noted lowest hart (Some fault) = lower_of lowest hart fault

-- what was noted is a refusal of a step
abbrev pub AreRefusals : Option Refusal → Type 0
AreRefusals None = Unit {0}
AreRefusals (Some r) = IsStepRefusal r.fault

-- the threads that were started for these seats, beside the place at the stop word of the thread that starts them; where the crew is
-- whole, there is one for each seat, in their order, and that thread hasn't raised the word; else it has raised it
pub record IsCrew (table : TableId) (given : List SeatView) (begun : List BeganView) (mine : Sitting) (whole : Bool) : Type 0 where
  pub word : mine.table ≡ table
  pub words : whole ≡ true → All (λ b. b.place.table ≡ table) begun
  pub same : whole ≡ true → map badge_of begun ≡ map badge given
  pub quiet : whole ≡ true → mine.raised ≡ false
  pub raises : whole ≡ false → mine.raised ≡ true

-- what these threads came to, of which `first` says whether all were started. Where the crew is whole, these are their seats, in
-- their order, and their places at the stop word. Where besides no step was refused, none has raised the word; and each seat has
-- ended, or one of the threads saw the word raised
pub record AreJoined (table : TableId) (begun : List BeganView) (first : Bool) (seats : List SeatView) (stops : List Sitting) (lowest : Option Refusal) (whole : Bool) : Type 0 where
  pub cause : AreRefusals lowest
  pub before : whole ≡ true → first ≡ true
  pub words : whole ≡ true → All (λ s. s.table ≡ table) stops
  pub same : whole ≡ true → map badge seats ≡ map badge_of begun
  pub count : whole ≡ true → length stops ≡ length seats
  pub quiet : whole ≡ true → lowest ≡ None → list_any (λ s. s.raised) stops ≡ false
  pub ends : whole ≡ true → lowest ≡ None → All HasEnded seats ⊎ Contains (all_found stops) true

-- a thread that was started is the last of those that are kept, if it is kept
abbrev pub HasKept : List BeganView → Option BeganView → Bool → List BeganView → Type 0
HasKept old None kept new = kept ≡ false
HasKept old (Some child) kept new = kept ≡ true → new ≡ old ++ child ∷ []

-- what the threads of these seats came to
pub record HaveEnded (table : TableId) (given : List SeatView) (seats : List SeatView) (stops : List Sitting) (mine : Sitting) (lowest : Option Refusal) (whole : Bool) : Type 0 where
  pub begun : List BeganView
  pub first : Bool
  pub crew : IsCrew table given begun mine first
  pub joined : AreJoined table begun first seats stops lowest whole

-- a crew that has started no thread
pub record IsIdle (table : TableId) (begun : List BeganView) (seats : List SeatView) (stops : List Sitting) (mine : Sitting) (lowest : Option Refusal) (whole : Bool) : Type 0 where
  pub none : begun ≡ []
  pub no_seats : seats ≡ []
  pub no_stops : stops ≡ []
  pub place : mine ≡ fresh table
  pub unrefused : lowest ≡ None
  pub is_whole : whole ≡ true

-- they are those seats by their numbers and budgets, and each has ended unless a step was refused
pub record AreDone (given seats : List SeatView) (refused : Option StepFault) : Type 0 where
  pub same : map badge seats ≡ map badge given
  pub cause : (fault : StepFault) → refused ≡ Some fault → IsStepRefusal fault
  pub ended : refused ≡ None → All HasEnded seats
