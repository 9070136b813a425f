-- From which states of a program an end can be reached.
-- Source: Clarke, Grumberg, Peled, Model Checking, 1999, chapter 3: AG EF of an end; where it fails harts wait for each other, or go round for ever.
use Rattle.std.specs.Prelude.{◌≡◌, ◌≢◌, ◌↔◌, ◌<◌, ℕ, zero, suc, Bool, List, [], ◌∷◌, Option, Some, None, length, slice_get, slice_index_or}
use Rattle.hart.specs.declared.state.HartState.{HartState}
use Rattle.hart.specs.declared.state.Status.TheVariants.{Running}
use Rattle.machine.specs.Replies.{trace_in}
use Rattle.machine.specs.Run.{Config, RunsTo, StepsTo, started}
use Rattle.machine.specs.declared.schedule.items.Step.{Step}
use Rattle.machine.specs.declared.schedule.items.Step.TheVariants.{Hart}
use Rattle.program.specs.Sections.{Sections}
use Rattle.store_trace.specs.declared.event.Event.{Event}
use Rattle.schedule_states.specs.Covering.{CoversAt, IsMet, IsTaken, ReachedView, StandsAs}
use Rattle.schedule_states.specs.States.{AsksTo}
use Rattle.schedule_states.specs.Ways.{IsMarked}
use Rattle.schedule_states.specs.declared.program_state.HartPart.{HartPart}
use Rattle.schedule_states.specs.declared.program_state.ProgramState.{ProgramState}

-- each hart has stopped
abbrev pub HaveStopped : List HartState → Type 0
HaveStopped harts = (h : ℕ) (own : HartState) → slice_get harts h ≡ Some own → own.status ≢ Running

-- some schedule leads on to where each hart has stopped
pub record CanEnd (c : Config) : Type 0 where
  pub steps : List Step
  pub end : Config
  pub runs : RunsTo c steps end
  pub stopped : HaveStopped end.harts

-- none does, however long
abbrev pub HasNoWayOut : Config → Type 0
HasNoWayOut c = (steps : List Step) (end : Config) → RunsTo c steps end → ¬ HaveStopped end.harts

-- whatever any schedule of a program leads to, some schedule leads on to an end
abbrev pub AlwaysEnds : Sections → List (List ℕ) → ℕ → Type 0
AlwaysEnds program medium harts = (steps : List Step) (c : Config) → RunsTo (started program medium harts) steps c → CanEnd c

-- any hart may make a step, whatever has happened
abbrev pub AnyMayGo : (List Event → ℕ → Type 0) → Type 0
AnyMayGo allows = (events : List Event) (h : ℕ) → allows events h

-- harts make so many steps, none of which is a request
abbrev pub GoesQuietly : ℕ → Config → Config → Type 0
GoesQuietly zero c d = d ≡ c
GoesQuietly (suc n) c d = (middle : Config) × (h : ℕ) × GoesQuietly n c middle × StepsTo middle (Hart h) d × (AsksTo middle h d → ⊥)

-- some steps, none of which is a request, lead there
abbrev pub IsQuiet : Config → Config → Type 0
IsQuiet c d = (steps : ℕ) × GoesQuietly steps c d

-- a hart makes a request, behind steps that are none
pub record GoesAsking (h : ℕ) (c d : Config) : Type 0 where
  pub ready : Config
  pub quiet : IsQuiet c ready
  pub asks : AsksTo ready h d

-- the requests that are made are those of these harts, in order
abbrev pub GoesBy : List ℕ → Config → Config → Type 0
GoesBy [] c d = IsQuiet c d
GoesBy (h ∷ harts) c d = (middle : Config) × GoesAsking h c middle × GoesBy harts middle d

-- once they are made, no schedule leads to an end
abbrev pub IsStuckBehind : List ℕ → Config → Type 0
IsStuckBehind harts c = (d : Config) → GoesBy harts c d → HasNoWayOut d

-- some schedule leads from c to what state n stands for
pub record LeadsTo {T : Type 0} (stands : T → List Event → Type 0) (r : ReachedView T) (c : Config) (n : ℕ) : Type 0 where
  pub steps : List Step
  pub end : Config
  pub runs : RunsTo c steps end
  pub covers : CoversAt stands r n end

-- so from whatever this state stands for, and state n is there
pub record IsWayTo {T : Type 0} (stands : T → List Event → Type 0) (r : ReachedView T) (s : ProgramState) (t : T) (n : ℕ) : Type 0 where
  pub there : n < length r.states
  pub leads : (c : Config) → StandsAs stands r.parts s t c → LeadsTo stands r c n

-- what the request of hart h leads to from the state, if the hart may make it, is taken to state n
abbrev pub IsTakenTo : {T : Type 0} → (T → List Event → Type 0) → (List Event → ℕ → Type 0) → ReachedView T → ProgramState → T → ℕ → ℕ → Type 0
IsTakenTo stands allows r s t h n = (c d : Config) → StandsAs stands r.parts s t c → allows (trace_in c.common) h → (asks : AsksTo c h d) → IsTaken stands r t h n c d asks.request

-- the turn of hart h leads from the state to this one; None where the hart makes no request, or may make none
abbrev pub IsTurn : {T : Type 0} → (T → List Event → Type 0) → (List Event → ℕ → Type 0) → ReachedView T → ProgramState → T → ℕ → Option ℕ → Type 0
IsTurn stands allows r s t h (Some n) = IsTakenTo stands allows r s t h n × IsWayTo stands r s t n
IsTurn stands allows r s t h None = (c d : Config) → StandsAs stands r.parts s t c → allows (trace_in c.common) h → AsksTo c h d → ⊥

-- these are the states to which the requests of harts lead from the state, as far as the first harts have been tried
pub record AreTurns {T : Type 0} (stands : T → List Event → Type 0) (allows : List Event → ℕ → Type 0) (r : ReachedView T) (s : ProgramState) (t : T) (count : ℕ)
    (to : List ℕ) : Type 0 where
  pub taken : (h : ℕ) → h < count → IsTakenTo stands allows r s t h (slice_index_or to h 0)
  pub ways : (h : ℕ) → h < 8 → IsWayTo stands r s t (slice_index_or to h 0)

-- so from the state of number n
pub record AreTurnsAt {T : Type 0} (stands : T → List Event → Type 0) (allows : List Event → ℕ → Type 0) (r : ReachedView T) (n : ℕ) (to : List ℕ) : Type 0 where
  pub there : (h : ℕ) → h < 8 → slice_index_or to h 0 < length r.states
  pub turns : (s : ProgramState) (t : T) → IsMet r n s t → AreTurns stands allows r s t r.harts to

-- so from each of the first states
pub record AreTurnsBelow {T : Type 0} (stands : T → List Event → Type 0) (allows : List Event → ℕ → Type 0) (r : ReachedView T) (next : List (List ℕ)) (count : ℕ) : Type 0 where
  pub count_is : length next ≡ count
  pub each : (n : ℕ) (to : List ℕ) → slice_get next n ≡ Some to → AreTurnsAt stands allows r n to

-- each hart of a state has stopped
abbrev pub HavePartsStopped : List HartPart → Type 0
HavePartsStopped parts = (h : ℕ) (part : HartPart) → slice_get parts h ≡ Some part → part.state.status ≢ Running

-- those states are marked of which each hart has stopped
pub record AreEnds {T : Type 0} (r : ReachedView T) (marks : List Bool) (count : ℕ) : Type 0 where
  pub count_is : length marks ≡ count
  pub each : (n : ℕ) (s : ProgramState) (t : T) → n < count → IsMet r n s t → IsMarked marks n ↔ HavePartsStopped s.harts.items
