-- States by the numbers of their parts.
use Rattle.std.specs.Prelude.{◌≡◌, ◌<◌, ◌≤◌, ℕ, List, [], Option, Some, length, slice_get, slice_index_or}
use Rattle.machine.specs.Replies.{trace_in}
use Rattle.machine.specs.Run.{Config}
use Rattle.store_trace.specs.declared.event.Event.{Event}
use Rattle.schedule_states.specs.Covering.{IsTaken, ReachedView, StandsAs}
use Rattle.schedule_states.specs.Marks.{IsMarkedBy}
use Rattle.schedule_states.specs.Numbers.{AreKept}
use Rattle.schedule_states.specs.States.{AreGrown, AsksTo, PartsView, StandsFor}
use Rattle.schedule_states.specs.Successors.{AreOthersAlike, HasLists}
use Rattle.schedule_states.specs.declared.program_state.HartPart.{HartPart}
use Rattle.schedule_states.specs.declared.program_state.ProgramState.{ProgramState}
use Rattle.schedule_states.specs.declared.program_state.StateNumbers.{StateNumbers}

-- the numbers are those of parts that are there
pub record AreThere {T : Type 0} (r : ReachedView T) (numbers : StateNumbers) : Type 0 where
  pub memory : numbers.memory < length r.parts.lists
  pub standing : numbers.standing < length r.standings
  pub harts : (h : ℕ) → h < r.harts → (part : HartPart) × (slice_get r.hart_parts (slice_index_or numbers.harts h 0) ≡ Some part) × (part.text < length r.parts.lists)

-- so of each state
pub record AreNumbered {T : Type 0} (r : ReachedView T) : Type 0 where
  pub few : r.harts ≤ 8
  pub each : (n : ℕ) (numbers : StateNumbers) → slice_get r.states n ≡ Some numbers → AreThere r numbers

-- states that grew: each number stays that of its state
pub record HaveGrown {T : Type 0} (old new : ReachedView T) : Type 0 where
  pub parts : AreGrown old.parts new.parts
  pub hart_parts : AreKept old.hart_parts new.hart_parts
  pub standings : AreKept old.standings new.standings
  pub states : AreKept old.states new.states
  pub harts : new.harts ≡ old.harts

-- what a state stands for it stood for before the parts grew
abbrev pub WereBefore : PartsView → PartsView → Type 0
WereBefore old new = (s : ProgramState) (c : Config) → HasLists old s → StandsFor new s c → StandsFor old s c

-- what a request of a hart leads to from the state, if the hart may make it, is taken to one of the states
abbrev pub IsClosedBy : {T : Type 0} → (T → List Event → Type 0) → (List Event → ℕ → Type 0) → ReachedView T → ProgramState → T → ℕ → Type 0
IsClosedBy stands allows r s t h = (c d : Config) → StandsAs stands r.parts s t c → allows (trace_in c.common) h →
    (asks : AsksTo c h d) → (n : ℕ) × IsTaken stands r t h n c d asks.request

-- so of each of the first harts
abbrev pub IsClosedFor : {T : Type 0} → (T → List Event → Type 0) → (List Event → ℕ → Type 0) → ReachedView T → ProgramState → T → ℕ → Type 0
IsClosedFor stands allows r s t count = (h : ℕ) → h < count → IsClosedBy stands allows r s t h

-- these are the parts of the harts with these numbers
pub record ArePartsOf {T : Type 0} (r : ReachedView T) (numbers : StateNumbers) (count : ℕ) (parts : List HartPart) : Type 0 where
  pub count_is : length parts ≡ count
  pub each : (h : ℕ) (part : HartPart) → slice_get parts h ≡ Some part → slice_get r.hart_parts (slice_index_or numbers.harts h 0) ≡ Some part

-- these are the numbers of the first parts
abbrev pub AreNumbersOf : List HartPart → List HartPart → ℕ → List ℕ → Type 0
AreNumbersOf known parts count numbers = (h : ℕ) (part : HartPart) → h < count → slice_get parts h ≡ Some part → slice_get known (slice_index_or numbers h 0) ≡ Some part

-- these are the numbers of the parts of before, from which those of after differ by one hart's, and by what others have reserved
pub record AreNumbersBefore (known before : List HartPart) (numbers : List ℕ) (moved : ℕ) (after : List HartPart) : Type 0 where
  pub numbered : AreNumbersOf known before (length before) numbers
  pub others : AreOthersAlike moved before after

-- this number has what is kept before any event
abbrev pub IsFirst : {T : Type 0} → (T → List Event → Type 0) → List T → ℕ → Type 0
IsFirst stands standings number = (t : _) × (slice_get standings number ≡ Some t) × stands t []

-- what is kept under the new number is kept after this mark, or none, of what is under the old one
abbrev pub IsKeptOn : {T : Type 0} → (T → List Event → Type 0) → List T → List T → ℕ → Option Event → ℕ → Type 0
IsKeptOn stands old new before mark after = (t : _) → slice_get old before ≡ Some t → (next : _) × (slice_get new after ≡ Some next)
    × ((events more : List Event) → IsMarkedBy mark events more → stands t events → stands next more)
