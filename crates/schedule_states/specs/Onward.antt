-- The turns of harts, before the states to which they lead have numbers.
use Rattle.std.specs.Prelude.{◌≡◌, ◌⊎◌, ◌++◌, ◌+◌, ◌∷◌, [], ◌<◌, ℕ, List, Option, Some, None, IfSome, IsSome, length, slice_get, slice_index_or}
use Rattle.hart.specs.declared.state.Status.{Status}
use Rattle.store_trace.specs.declared.event.Event.{Event}
use Rattle.schedule_states.specs.Covering.{IsMet, PartsEndWell, ReachedView}
use Rattle.schedule_states.specs.Ending.{IsTurn}
use Rattle.schedule_states.specs.Happening.{IsLedAs, IsLedTo}
use Rattle.schedule_states.specs.HeldLines.{AreBelow}
use Rattle.schedule_states.specs.Reaching.{AreThere, HaveGrown, WereBefore}
use Rattle.schedule_states.specs.States.{PartsView}
use Rattle.schedule_states.specs.declared.program_state.ProgramState.{ProgramState}
use Rattle.schedule_states.specs.declared.program_state.StateNumbers.{StateNumbers}
use Rattle.schedule_states.specs.declared.looked.FoundTurn.{FoundTurn}
use Rattle.schedule_states.specs.declared.looked.FoundTurn.TheVariants as found
use Rattle.schedule_states.specs.declared.looked.ListedTurn.{ListedTurn}
use Rattle.schedule_states.specs.declared.looked.Looked.{Looked}
use Rattle.schedule_states.specs.declared.reached.Turn.{Turn}
use Rattle.schedule_states.specs.declared.reached.Turn.TheVariants as to

-- the state with parts of these numbers, as if no other one was reached
abbrev pub only : {T : Type 0} → ReachedView T → StateNumbers → ReachedView T
only r numbers = record { parts = r.parts; hart_parts = r.hart_parts; standings = r.standings; states = numbers ∷ []; harts = r.harts }

-- the turn of hart h leads from the state to the one with parts of these numbers
pub record LeadsToParts {T : Type 0} (stands : T → List Event → Type 0) (allows : List Event → ℕ → Type 0) (r : ReachedView T) (s : ProgramState) (t : T) (h : ℕ)
    (numbers : StateNumbers) : Type 0 where
  pub there : AreThere r numbers
  pub turn : IsTurn stands allows (only r numbers) s t h (Some 0)
  pub led : IsLedAs stands allows r s t → IsLedTo stands allows (only r numbers) 0

-- so where the hart makes a request; None where it makes none, or may make none
abbrev pub IsTurnTo : {T : Type 0} → (T → List Event → Type 0) → (List Event → ℕ → Type 0) → ReachedView T → ProgramState → T → ℕ → Option StateNumbers → Type 0
IsTurnTo stands allows r s t h (Some numbers) = LeadsToParts stands allows r s t h numbers
IsTurnTo stands allows r s t h None = IsTurn stands allows r s t h None

-- such a turn, or one that leads to a state of which the number is known
abbrev pub IsKnownTurn : {T : Type 0} → (T → List Event → Type 0) → (List Event → ℕ → Type 0) → ReachedView T → ProgramState → T → ℕ → Turn → Type 0
IsKnownTurn stands allows r s t h to.Stays = IsTurnTo stands allows r s t h None
IsKnownTurn stands allows r s t h (to.Reached n) = IsTurn stands allows r s t h (Some n)
IsKnownTurn stands allows r s t h (to.Parts numbers) = IsTurnTo stands allows r s t h (Some numbers)

-- so of the turns of the first harts that are known
abbrev pub AreTurnsTo : {T : Type 0} → (T → List Event → Type 0) → (List Event → ℕ → Type 0) → ReachedView T → ProgramState → T → ℕ → List (Option Turn) → Type 0
AreTurnsTo stands allows r s t count turns = (h : ℕ) → h < count → IfSome (slice_index_or turns h None) (IsKnownTurn stands allows r s t h)

-- those of the first harts are all known
abbrev pub AreAllKnown : ℕ → List (Option Turn) → Type 0
AreAllKnown count turns = (h : ℕ) → h < count → IsSome (slice_index_or turns h None)

-- so of all harts from the state of number n, where each runs or has stopped as it may
pub record AreTurnsFrom {T : Type 0} (stands : T → List Event → Type 0) (allows : List Event → ℕ → Type 0) (ends : Status → Type 0) (r : ReachedView T) (n : ℕ)
    (turns : List (Option Turn)) : Type 0 where
  pub state : ProgramState
  pub standing : T
  pub met : IsMet r n state standing
  pub well : PartsEndWell ends state.harts.items
  pub turns_are : AreTurnsTo stands allows r state standing r.harts turns

-- the same numbers, but for that of the memory
abbrev pub with_memory : StateNumbers → ℕ → StateNumbers
with_memory numbers memory = record { harts = numbers.harts; memory = memory; standing = numbers.standing }

-- The turn leads to a state whose list of held lines may have no number yet: once it has one, whatever the states have grown to, the turn leads
-- to the state with parts of these numbers, of which that of the memory is the list's.
pub record IsListedTurn {T : Type 0} (stands : T → List Event → Type 0) (allows : List Event → ℕ → Type 0) (r : ReachedView T) (s : ProgramState) (t : T)
    (listed : ListedTurn) : Type 0 where
  pub below : AreBelow (length r.parts.table.states) listed.list.items
  pub leads : (new : ReachedView T) (n : ℕ) → HaveGrown r new → WereBefore r.parts new.parts → slice_get new.parts.lists n ≡ Some listed.list.items →
      IsTurnTo stands allows new s t listed.hart (Some (with_memory listed.numbers n))

-- so of each of these turns
abbrev pub AreListedTurns : {T : Type 0} → (T → List Event → Type 0) → (List Event → ℕ → Type 0) → ReachedView T → ProgramState → T → List ListedTurn → Type 0
AreListedTurns stands allows r s t turns = (n : ℕ) (listed : ListedTurn) → slice_get turns n ≡ Some listed → IsListedTurn stands allows r s t listed

-- what a look has found of the turns from the state of number n
pub record AreLookedFrom {T : Type 0} (stands : T → List Event → Type 0) (allows : List Event → ℕ → Type 0) (ends : Status → Type 0) (r : ReachedView T) (n : ℕ)
    (looked : Looked) : Type 0 where
  pub turns : AreTurnsFrom stands allows ends r n looked.turns
  pub listed : AreListedTurns stands allows r turns.state turns.standing looked.listed.items

-- so of each of the states from the first one on of which turns are known
abbrev pub AreKnownFrom : {T : Type 0} → (T → List Event → Type 0) → (List Event → ℕ → Type 0) → (Status → Type 0) → ReachedView T → ℕ → List (Option Looked) → Type 0
AreKnownFrom stands allows ends r first known = (n : ℕ) (looked : Looked) → slice_get known n ≡ Some (Some looked) →
    AreLookedFrom stands allows ends r (first + n) looked

-- the turn leads to the state with parts of these numbers, if there is one
abbrev pub IsTurnOfParts : Option StateNumbers → Turn → Type 0
IsTurnOfParts (Some numbers) turn = turn ≡ to.Parts numbers
IsTurnOfParts None turn = turn ≡ to.Stays

-- so, where its parts are there; or to its number among those that were reached
abbrev pub IsPlaced : {T : Type 0} → ReachedView T → Option StateNumbers → Turn → Type 0
IsPlaced r (Some numbers) (to.Parts same) = (same ≡ numbers) × AreThere r numbers
IsPlaced r (Some numbers) (to.Reached n) = slice_get r.states n ≡ Some numbers
IsPlaced r (Some numbers) to.Stays = ⊥
IsPlaced r None turn = turn ≡ to.Stays

-- a turn of hart h to parts of these numbers, of which that of the memory is the number of a list in the tables of a look
pub record IsListedOf {T : Type 0} (r : ReachedView T) (look : PartsView) (h : ℕ) (numbers : StateNumbers) (listed : ListedTurn) : Type 0 where
  pub hart : listed.hart ≡ h
  pub numbers_are : listed.numbers ≡ numbers
  pub list : slice_get look.lists numbers.memory ≡ Some listed.list.items
  pub below : AreBelow (length r.parts.table.states) listed.list.items
  pub others : (memory : ℕ) → memory < length r.parts.lists → AreThere r (with_memory numbers memory)

-- what a look finds of such a turn: where its parts are there, and else with its list
abbrev pub IsFoundOf : {T : Type 0} → ReachedView T → PartsView → ℕ → Option StateNumbers → FoundTurn → Type 0
IsFoundOf r look h next (found.Known turn) = IsPlaced r next turn
IsFoundOf r look h next (found.Listed listed) = IfSome next (λ numbers. IsListedOf r look h numbers listed) × IsSome next

-- what is found of the turn of hart h is so
abbrev pub IsFoundTurn : {T : Type 0} → (T → List Event → Type 0) → (List Event → ℕ → Type 0) → ReachedView T → ProgramState → T → ℕ → FoundTurn → Type 0
IsFoundTurn stands allows r s t h (found.Known turn) = IsKnownTurn stands allows r s t h turn
IsFoundTurn stands allows r s t h (found.Listed listed) = (listed.hart ≡ h) × IsListedTurn stands allows r s t listed

-- the parts to which a turn leads are there
abbrev pub HasParts : {T : Type 0} → ReachedView T → Turn → Type 0
HasParts r (to.Parts numbers) = AreThere r numbers
HasParts r (to.Reached n) = Unit {0}
HasParts r to.Stays = Unit {0}

-- the state to which a turn leads has this number
abbrev pub HasPlace : List StateNumbers → Turn → Option ℕ → Type 0
HasPlace states (to.Parts numbers) (Some n) = slice_get states n ≡ Some numbers
HasPlace states (to.Parts numbers) None = ⊥
HasPlace states (to.Reached m) next = next ≡ Some m
HasPlace states to.Stays next = next ≡ None

-- the states are those of before, or the one more to which a turn leads
abbrev pub MayHaveOneMore : List StateNumbers → List StateNumbers → Turn → Type 0
MayHaveOneMore old new (to.Parts numbers) = (new ≡ old) ⊎ (new ≡ old ++ numbers ∷ [])
MayHaveOneMore old new (to.Reached n) = new ≡ old
MayHaveOneMore old new to.Stays = new ≡ old
