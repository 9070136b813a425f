-- When the marks of operations make no sense in a run that is judged without a plan. An event is judged by those before it.
use Rattle.std.specs.Prelude.{◌≡◌, ℕ, ◌+◌, ◌<◌, List, [], length, Some, slice_get, take}
use Rattle.std.specs.List.{Contains}
use Rattle.store_trace.specs.Marks.{begun, pending}
use Rattle.image_check.specs.OrderFaults.{IsBegunTwice, IsNotPending}
use Rattle.routine_judge.specs.Operations.{IsPendingBy}
use Rattle.routine_judge.specs.declared.history.fault.MarkFault.{MarkFault}
use Rattle.routine_judge.specs.declared.history.fault.MarkFault.TheVariants.{BegunTwice, NotPending, Overlaps, NoOperation, Memory}
use Rattle.routine_judge.specs.declared.history.overlap.Overlap.{Overlap}
use Rattle.routine_judge.specs.declared.history.overlap.Overlap.TheVariants.{Never, BetweenHarts, Always}
use Rattle.store_trace.specs.declared.event.Event.{Event}
use Rattle.store_trace.specs.declared.event.Event.TheVariants.{Store, Clean, Fence, Begin, End}

-- an operation is pending after these events
abbrev pub SomePending : List Event → Type 0
SomePending before = (op : ℕ) × Contains (pending before) op

-- an operation of this hart may not begin after these events
abbrev pub MayNotBegin : Overlap → List Event → ℕ → Type 0
MayNotBegin Never before hart = SomePending before
MayNotBegin BetweenHarts before hart = (other : ℕ) × IsPendingBy before hart other
MayNotBegin Always before hart = ⊥

-- O5: a Begin while an operation is pending that it may not overlap
abbrev pub IsOverlap : Overlap → List Event → Event → Type 0
IsOverlap overlap before (Store hart line offset width value) = ⊥
IsOverlap overlap before (Clean hart line) = ⊥
IsOverlap overlap before (Fence hart) = ⊥
IsOverlap overlap before (Begin hart op) = MayNotBegin overlap before hart
IsOverlap overlap before (End hart op) = ⊥

-- the event after these has the fault
abbrev pub HasFault : Overlap → List Event → Event → MarkFault → Type 0
HasFault overlap before event BegunTwice = IsBegunTwice before event
HasFault overlap before event NotPending = IsNotPending before event
HasFault overlap before event Overlaps = IsOverlap overlap before event
HasFault overlap before event NoOperation = ⊥
HasFault overlap before event Memory = ⊥

abbrev pub code_of : MarkFault → ℕ
code_of BegunTwice = 2
code_of NotPending = 3
code_of Overlaps = 5
code_of NoOperation = 6
code_of Memory = 7

-- the event after these has the fault, and none of a lower code
pub record IsLowestFault (overlap : Overlap) (before : List Event) (event : Event) (fault : MarkFault) : Type 0 where
  pub has : HasFault overlap before event fault
  pub lowest : (lower : MarkFault) → code_of lower < code_of fault → ¬ HasFault overlap before event lower

-- the first `count` events have no fault
abbrev pub AreSound : Overlap → List Event → ℕ → Type 0
AreSound overlap events count =
    (i : ℕ) (event : Event) (fault : MarkFault) → i < count → slice_get events i ≡ Some event → ¬ HasFault overlap (take i events) event fault

-- it is the lowest fault of the first event that has one
pub record IsFirstFault (overlap : Overlap) (events : List Event) (fault : MarkFault) : Type 0 where
  pub number : ℕ
  pub event : Event
  pub place : slice_get events number ≡ Some event
  pub here : IsLowestFault overlap (take number events) event fault
  pub earlier : AreSound overlap events number

-- behind events that have no fault stands a Begin that has none: its operation is taken in there
pub record HasSoundBegin (overlap : Overlap) (events : List Event) : Type 0 where
  pub at : ℕ
  pub hart : ℕ
  pub op : ℕ
  pub begins : slice_get events at ≡ Some (Begin hart op)
  pub sound : AreSound overlap events (at + 1)

-- O6: no event is at fault, and none begins an operation
abbrev pub HasNoOperation : Overlap → List Event → Type 0
HasNoOperation overlap events = AreSound overlap events (length events) × (begun events ≡ [])

-- why the marks aren't taken; a growth may be refused at any time
abbrev pub IsFault : Overlap → List Event → MarkFault → Type 0
IsFault overlap events BegunTwice = IsFirstFault overlap events BegunTwice
IsFault overlap events NotPending = IsFirstFault overlap events NotPending
IsFault overlap events Overlaps = IsFirstFault overlap events Overlaps
IsFault overlap events NoOperation = HasNoOperation overlap events
IsFault overlap events Memory = Unit {0}
