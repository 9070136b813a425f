-- What happens in runs that keep to a rule of turns, which is what a judge may note. `happens events lines` says that after a run with these
-- events loads find these lines of the medium.
use Rattle.std.specs.Prelude.{◌≡◌, ◌<◌, ℕ, List, Some, length, slice_get}
use Rattle.machine.specs.Replies.{trace_in}
use Rattle.machine.specs.Run.{Config, RunsTo, started}
use Rattle.machine.specs.declared.schedule.items.Step.{Step}
use Rattle.program.specs.Sections.{Sections}
use Rattle.store_trace.specs.History.{history}
use Rattle.store_trace.specs.Image.{image}
use Rattle.store_trace.specs.Stores.{stores}
use Rattle.store_trace.specs.declared.event.Event.{Event}
use Rattle.schedule_states.specs.Claims.{KeepsClaims, claim_in}
use Rattle.schedule_states.specs.Covering.{IsMet, ReachedView, StandsAs}
use Rattle.schedule_states.specs.Images.{image_in}
use Rattle.schedule_states.specs.Memories.{MemoryView}
use Rattle.schedule_states.specs.States.{PartsView}
use Rattle.schedule_states.specs.Successors.{IsAskingOf}
use Rattle.schedule_states.specs.Turns.{KeepsTo}
use Rattle.schedule_states.specs.declared.held_lines.HeldLine.{HeldLine}
use Rattle.schedule_states.specs.declared.parts.Asking.{Asking}
use Rattle.schedule_states.specs.declared.program_state.ProgramState.{ProgramState}
use Rattle.schedule_states.specs.declared.program_state.StateNumbers.{StateNumbers}

-- a run from the start that keeps to the rule leads here
pub record IsLed (allows : List Event → ℕ → Type 0) (start here : Config) : Type 0 where
  pub steps : List Step
  pub runs : RunsTo start steps here
  pub keeps : KeepsTo allows start steps

-- what loads find of the medium after these events: all stores of each line have been made
abbrev pub full_image : List (List ℕ) → List Event → List (List ℕ)
full_image medium events = image medium (λ l. stores l (history events)) (history events)

-- so it happens in each run of the program that keeps to the rule
abbrev pub AllHappen : (List Event → ℕ → Type 0) → (List Event → List (List ℕ) → Type 0) → Sections → List (List ℕ) → ℕ → Type 0
AllHappen allows happens program medium harts = (end : Config) → IsLed allows (started program medium harts) end →
    happens (trace_in end.common) (full_image medium (trace_in end.common))

-- after the events of such a run this is kept, and loads find what the memory has of the medium
abbrev pub HasHappened : {T : Type 0} → (T → List Event → Type 0) → (List Event → List (List ℕ) → Type 0) → MemoryView → T → Type 0
HasHappened stands happens memory t = (events : List Event) × stands t events × happens events (image_in memory (λ l. 0))

-- so of a list of held lines, by its number among these, and of what is kept, by its number
abbrev pub HasHappenedAt : {T : Type 0} → (T → List Event → Type 0) → (List Event → List (List ℕ) → Type 0) → ReachedView T → List (List HeldLine) → ℕ → ℕ → Type 0
HasHappenedAt stands happens r lists memory standing = (held : List HeldLine) (t : _) → slice_get lists memory ≡ Some held → slice_get r.standings standing ≡ Some t →
    HasHappened stands happens (record { start = r.parts.table.start; states = r.parts.table.states; held = held }) t

-- so of the state of this number, which is there
pub record IsHappening {T : Type 0} (stands : T → List Event → Type 0) (happens : List Event → List (List ℕ) → Type 0) (r : ReachedView T) (number : ℕ) : Type 0 where
  pub there : number < length r.states
  pub happened : (numbers : StateNumbers) → slice_get r.states number ≡ Some numbers → HasHappenedAt stands happens r r.parts.lists numbers.memory numbers.standing

-- the state stands for what such a run leads to, with this kept
pub record IsLedAs {T : Type 0} (stands : T → List Event → Type 0) (allows : List Event → ℕ → Type 0) (r : ReachedView T) (s : ProgramState) (t : T) : Type 0 where
  pub end : Config
  pub led : IsLed allows (started r.parts.table.start.program r.parts.table.start.medium r.harts) end
  pub stands_as : StandsAs stands r.parts s t end

-- so does the state of this number
pub record IsLedTo {T : Type 0} (stands : T → List Event → Type 0) (allows : List Event → ℕ → Type 0) (r : ReachedView T) (number : ℕ) : Type 0 where
  pub state : ProgramState
  pub standing : T
  pub met : IsMet r number state standing
  pub led_as : IsLedAs stands allows r state standing

-- so does each
abbrev pub AreLed : {T : Type 0} → (T → List Event → Type 0) → (List Event → ℕ → Type 0) → ReachedView T → Type 0
AreLed stands allows r = (n : ℕ) → n < length r.states → IsLedTo stands allows r n

-- hart h of the state stands at a request
abbrev pub IsAtRequest : PartsView → ProgramState → ℕ → Type 0
IsAtRequest parts s h = (asking : Asking) × (asking.hart ≡ h) × IsAskingOf parts s asking

-- at one that keeps to the claims
abbrev pub IsAtFitRequest : PartsView → ProgramState → ℕ → Type 0
IsAtFitRequest parts s h = (at : IsAtRequest parts s h) × KeepsClaims (claim_in parts.claims) h at.0.request
