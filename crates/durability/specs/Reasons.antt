-- Why a clean or a fence is needless. Each reason is read in one list of events, in which `before` stands before the event, and
-- `after` after it.
use Rattle.std.specs.Prelude.{◌≡◌, ℕ, ◌<◌, ◌≤◌, List, [], ◌∷◌, ◌++◌, Contains}
use Rattle.store_trace.specs.Floor.{floor}
use Rattle.store_trace.specs.Stores.{stores}
use Rattle.store_trace.specs.History.{history}
use Rattle.store_trace.specs.declared.event.Event.{Event}
use Rattle.store_trace.specs.declared.event.Event.TheVariants.{Clean, Fence}
use Rattle.durability.specs.declared.redundant.reason.Reason.{Reason}
use Rattle.durability.specs.declared.redundant.reason.Reason.TheVariants.{NotFenced, NothingToComplete, CleanedAgain, AlreadyThere}

-- of the events after an event, those before the hart's next fence and those after it
pub record IsNextFence (hart : ℕ) (after between later : List Event) : Type 0 where
  pub place : after ≡ between ++ (Fence hart ∷ later)
  pub next : ¬ Contains between (Fence hart)

-- another clean of the line by the hart comes before the hart's next fence
pub record IsCleanedAgain (hart line : ℕ) (after : List Event) : Type 0 where
  pub between : List Event
  pub later : List Event
  pub fence : IsNextFence hart after between later
  pub again : Contains between (Clean hart line)

-- the hart's next fence finds the floor of the line that the hart cleans already at the clean's number of stores, or above
pub record IsAlreadyThere (before : List Event) (hart line : ℕ) (after : List Event) : Type 0 where
  pub between : List Event
  pub later : List Event
  pub fence : IsNextFence hart after between later
  pub there : stores line (history before) ≤ floor line (history (before ++ (Clean hart line ∷ between)))

-- what a reason says of an event
abbrev pub Holds : List Event → Event → List Event → Reason → Type 0
Holds before (Clean hart line) after NotFenced = ¬ Contains after (Fence hart)
Holds before (Fence hart) after NothingToComplete =
    (l : ℕ) → floor l (history (before ++ Fence hart ∷ [])) ≡ floor l (history before)
Holds before (Clean hart line) after CleanedAgain = IsCleanedAgain hart line after
Holds before (Clean hart line) after AlreadyThere = IsAlreadyThere before hart line after
Holds before event after reason = ⊥

-- the order of the reasons
abbrev pub place_of : Reason → ℕ
place_of NotFenced = 0
place_of NothingToComplete = 1
place_of CleanedAgain = 2
place_of AlreadyThere = 3

-- the first reason that holds
pub record IsReason (before : List Event) (event : Event) (after : List Event) (reason : Reason) : Type 0 where
  pub holds : Holds before event after reason
  pub first : (other : Reason) → place_of other < place_of reason → ¬ Holds before event after other
