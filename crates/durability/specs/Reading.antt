-- What is known of a run once its first `at` events are read. Places of events are numbered from 0, events from 1.
use Rattle.std.specs.Prelude.{◌≡◌, ℕ, ◌+◌, ◌<◌, ◌≤◌, ◌⊎◌, List, Option, Some, None, slice_get, slice_index_or, length}
use Rattle.store_trace.specs.Floor.{cleaned, floor}
use Rattle.store_trace.specs.Stores.{stores}
use Rattle.store_trace.specs.History.{at_moment}
use Rattle.store_trace.specs.declared.event.Event.{Event}
use Rattle.store_trace.specs.declared.event.Event.TheVariants.{Store, Clean, Fence, Begin, End}
use Rattle.durability.specs.declared.redundant.reading.LastClean.{LastClean}
use Rattle.durability.specs.declared.redundant.reading.LineState.{LineState}
use Rattle.durability.specs.declared.redundant.reason.Reason.{Reason}
use Rattle.durability.specs.declared.redundant.reason.Reason.TheVariants.{NotFenced, NothingToComplete, CleanedAgain, AlreadyThere}

-- the events from place i up to place k, which isn't among them, have this one
pub record HasWithin (events : List Event) (i k : ℕ) (event : Event) : Type 0 where
  pub place : ℕ
  pub from : i ≤ place
  pub below : place < k
  pub is : slice_get events place ≡ Some event

-- what the hart's fence at place f answers its clean at place i
abbrev pub IsAnswered : List Event → ℕ → ℕ → ℕ → ℕ → Option Reason → Type 0
IsAnswered events i hart line f (Some NotFenced) = ⊥
IsAnswered events i hart line f (Some NothingToComplete) = ⊥
IsAnswered events i hart line f (Some CleanedAgain) = HasWithin events (i + 1) f (Clean hart line)
IsAnswered events i hart line f (Some AlreadyThere) =
    (¬ HasWithin events (i + 1) f (Clean hart line)) × (stores line (at_moment events i) ≤ floor line (at_moment events f))
IsAnswered events i hart line f None =
    (¬ HasWithin events (i + 1) f (Clean hart line)) × (floor line (at_moment events f) < stores line (at_moment events i))

-- the hart's next fence after its clean at place i answers it
pub record IsFenced (events : List Event) (at i hart line : ℕ) (reason : Option Reason) : Type 0 where
  pub fence : ℕ
  pub later : i < fence
  pub read : fence < at
  pub is : slice_get events fence ≡ Some (Fence hart)
  pub next : ¬ HasWithin events (i + 1) fence (Fence hart)
  pub answered : IsAnswered events i hart line fence reason

-- the hart makes no fence after its clean at place i
pub record IsOpen (events : List Event) (at i hart : ℕ) (reason : Option Reason) : Type 0 where
  pub told : reason ≡ Some NotFenced
  pub none : ¬ HasWithin events (i + 1) at (Fence hart)

-- the hart's fence at place i completes nothing, or raises a floor
abbrev pub IsRising : List Event → ℕ → ℕ → Option Reason → Type 0
IsRising events i hart (Some NotFenced) = ⊥
IsRising events i hart (Some NothingToComplete) = (l : ℕ) → cleaned l hart (at_moment events i) ≤ floor l (at_moment events i)
IsRising events i hart (Some CleanedAgain) = ⊥
IsRising events i hart (Some AlreadyThere) = ⊥
IsRising events i hart None = (l : ℕ) × (floor l (at_moment events i) < cleaned l hart (at_moment events i))

-- what is told of the event at place i
abbrev pub IsTold : List Event → ℕ → ℕ → Event → Option Reason → Type 0
IsTold events at i (Store hart line offset width value) reason = reason ≡ None
IsTold events at i (Clean hart line) reason = IsOpen events at i hart reason ⊎ IsFenced events at i hart line reason
IsTold events at i (Fence hart) reason = IsRising events i hart reason
IsTold events at i (Begin hart op) reason = reason ≡ None
IsTold events at i (End hart op) reason = reason ≡ None

abbrev pub IsToldAt : List Event → ℕ → ℕ → Option Reason → Type 0
IsToldAt events at i reason = (event : Event) → slice_get events i ≡ Some event → IsTold events at i event reason

-- of the first `count` events
abbrev pub AreTold : List Event → ℕ → ℕ → List (Option Reason) → Type 0
AreTold events at count told = (i : ℕ) (d : Option Reason) → i < count → IsToldAt events at i (slice_index_or told i d)

-- the hart's last clean of line l, with the number 0 where there is none
pub record IsLastClean (events : List Event) (at hart l : ℕ) (clean : LastClean) : Type 0 where
  pub within : clean.event ≤ at
  pub last : ¬ HasWithin events clean.event at (Clean hart l)
  pub is : (place : ℕ) → clean.event ≡ place + 1 → slice_get events place ≡ Some (Clean hart l)
  pub before : (place : ℕ) → clean.event ≡ place + 1 → stores l (at_moment events place) ≡ clean.stores
  pub count : clean.stores ≡ cleaned l hart (at_moment events at)

-- what is known of line l but for its floor
pub record IsCounted (events : List Event) (at l : ℕ) (state : LineState) : Type 0 where
  pub count : state.stores ≡ stores l (at_moment events at)
  pub few : state.stores ≤ at
  pub harts : length state.cleans ≡ 8
  pub cleans : (hart : ℕ) (d : LastClean) → hart < 8 → IsLastClean events at hart l (slice_index_or state.cleans hart d)

pub record IsLine (events : List Event) (at l : ℕ) (state : LineState) : Type 0 where
  pub counted : IsCounted events at l state
  pub level : state.floor ≡ floor l (at_moment events at)

abbrev pub AreLines : List Event → ℕ → List LineState → Type 0
AreLines events at lines = (l : ℕ) (d : LineState) → l < length lines → IsLine events at l (slice_index_or lines l d)

-- `number` is that of the hart's last fence, else 0; what the hart cleaned of a line before it is in the line's floor
pub record IsLastFence (events : List Event) (at hart number : ℕ) : Type 0 where
  pub within : number ≤ at
  pub last : ¬ HasWithin events number at (Fence hart)
  pub is : (place : ℕ) → number ≡ place + 1 → slice_get events place ≡ Some (Fence hart)
  pub settled : (l : ℕ) → (¬ HasWithin events number at (Clean hart l)) → cleaned l hart (at_moment events at) ≤ floor l (at_moment events at)

abbrev pub AreLastFences : List Event → ℕ → List ℕ → Type 0
AreLastFences events at numbers = (hart d : ℕ) → hart < 8 → IsLastFence events at hart (slice_index_or numbers hart d)
