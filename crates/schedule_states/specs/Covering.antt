-- States that stand for all that schedules lead to.
use Rattle.std.specs.Prelude.{◌≡◌, ◌≢◌, ◌<◌, ◌++◌, ℕ, List, [], Some, length, slice_get, slice_index_or}
use Rattle.hart.specs.declared.state.Status.{Status}
use Rattle.hart.specs.declared.state.Status.TheVariants.{Running}
use Rattle.hart.specs.declared.need.Request.{Request}
use Rattle.machine.specs.Replies.{events_of, reply_after, trace_in}
use Rattle.machine.specs.Run.{Config}
use Rattle.store_trace.specs.declared.event.Event.{Event}
use Rattle.schedule_states.specs.Behind.{GoesOwnBy, IsBehind, IsFit}
use Rattle.schedule_states.specs.Claims.{claim_in}
use Rattle.schedule_states.specs.States.{AsksTo, PartsView, StandsFor}
use Rattle.schedule_states.specs.declared.program_state.HartPart.{HartPart}
use Rattle.schedule_states.specs.declared.program_state.ProgramState.{ProgramState}
use Rattle.schedule_states.specs.declared.program_state.StateNumbers.{StateNumbers}

-- what a contract sees of states that were reached: those of so many harts, each by the numbers of its parts; `standings` are what is kept of
-- the operations
pub record ReachedView (T : Type 0) : Type 0 where
  pub parts : PartsView
  pub hart_parts : List HartPart
  pub standings : List T
  pub states : List StateNumbers
  pub harts : ℕ

-- the state was reached, with this kept of the operations: it has this number
pub record IsMet {T : Type 0} (r : ReachedView T) (number : ℕ) (s : ProgramState) (t : T) : Type 0 where
  pub numbers : StateNumbers
  pub found : slice_get r.states number ≡ Some numbers
  pub memory : s.memory ≡ numbers.memory
  pub standing : slice_get r.standings numbers.standing ≡ Some t
  pub count : length s.harts.items ≡ r.harts
  pub each : (h : ℕ) (part : HartPart) → slice_get s.harts.items h ≡ Some part → slice_get r.hart_parts (slice_index_or numbers.harts h 0) ≡ Some part

-- the state stands for this configuration, and this is kept of the operations after its events
abbrev pub StandsAs : {T : Type 0} → (T → List Event → Type 0) → PartsView → ProgramState → T → Config → Type 0
StandsAs stands parts s t c = StandsFor parts s c × stands t (trace_in c.common)

-- one of the states stands for it
pub record Covers {T : Type 0} (stands : T → List Event → Type 0) (r : ReachedView T) (c : Config) : Type 0 where
  pub state : ProgramState
  pub standing : T
  pub number : ℕ
  pub met : IsMet r number state standing
  pub stands_as : StandsAs stands r.parts state standing c

-- the state of this number stands for it
abbrev pub CoversAt : {T : Type 0} → (T → List Event → Type 0) → ReachedView T → ℕ → Config → Type 0
CoversAt stands r n c = (covers : Covers stands r c) × (covers.number ≡ n)

-- A request of hart h leads from c to d: it keeps to the claims, and steps of the hart that are its own affair lead on to what state n stands
-- for. What that one keeps is kept after the request, whatever events t was kept of.
pub record IsTaken {T : Type 0} (stands : T → List Event → Type 0) (r : ReachedView T) (t : T) (h n : ℕ) (c d : Config) (request : Request) : Type 0 where
  pub fits : IsFit (claim_in r.parts.claims) h request
  pub steps : ℕ
  pub end : Config
  pub goes : GoesOwnBy (claim_in r.parts.claims) h steps d end
  pub none : r.parts.claims ≡ [] → end ≡ d
  pub at : CoversAt stands r n end
  pub kept : (events : List Event) → stands t events → stands at.0.standing (events ++ events_of h request (reply_after c.common h request))

-- each of these harts that has stopped may stop as it did
abbrev pub PartsEndWell : (Status → Type 0) → List HartPart → Type 0
PartsEndWell ends parts = (h : ℕ) (part : HartPart) → slice_get parts h ≡ Some part → part.state.status ≢ Running → ends part.state.status

-- What a request of one of its harts leads to from a state, if the hart may make it, is taken to one of the states. Its harts that have stopped have done so as
-- they may. `allows events h` says that hart h may make a step after these events.
pub record IsClosedAt {T : Type 0} (stands : T → List Event → Type 0) (allows : List Event → ℕ → Type 0) (ends : Status → Type 0) (r : ReachedView T)
    (number : ℕ) : Type 0 where
  pub covered : (h : ℕ) (s : ProgramState) (t : T) (c d : Config) → IsMet r number s t → h < r.harts → StandsAs stands r.parts s t c → allows (trace_in c.common) h →
      (asks : AsksTo c h d) → (n : ℕ) × IsTaken stands r t h n c d asks.request
  pub ended : (s : ProgramState) (t : T) → IsMet r number s t → PartsEndWell ends s.harts.items

-- so from each of the first states
abbrev pub IsClosedBelow : {T : Type 0} → (T → List Event → Type 0) → (List Event → ℕ → Type 0) → (Status → Type 0) → ReachedView T → ℕ → Type 0
IsClosedBelow stands allows ends r count = (number : ℕ) → number < count → IsClosedAt stands allows ends r number

-- so from each state
abbrev pub IsClosed : {T : Type 0} → (T → List Event → Type 0) → (List Event → ℕ → Type 0) → (Status → Type 0) → ReachedView T → Type 0
IsClosed stands allows ends r = IsClosedBelow stands allows ends r (length r.states)

-- what one of the states stands for can be come to by steps that are their harts' own affair, in any order, and this is kept of the events
pub record IsCovered {T : Type 0} (stands : T → List Event → Type 0) (r : ReachedView T) (c : Config) : Type 0 where
  pub state : ProgramState
  pub standing : T
  pub number : ℕ
  pub met : IsMet r number state standing
  pub ahead : Config
  pub stands_as : StandsAs stands r.parts state standing ahead
  pub harts : List ℕ
  pub behind : IsBehind (claim_in r.parts.claims) harts c ahead
  pub kept : stands standing (trace_in c.common)
