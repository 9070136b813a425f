-- When the marks of operations in a trace make no sense. An event is judged by those before it.
-- This project's own rules, after NOVA, FAST 2016: operations that are under way together lock the inodes that they change.
use Rattle.std.specs.Prelude.{◌≡◌, ℕ, ◌<◌, ◌≤◌, true, List, length, map, Some, slice_get, slice_index_or, take}
use Rattle.std.specs.List.{Contains}
use Rattle.plan.specs.declared.operation.Operation.{Operation}
use Rattle.store_trace.specs.declared.event.Event.{Event}
use Rattle.store_trace.specs.declared.event.Event.TheVariants.{Store, Clean, Fence, Begin, End}
use Rattle.store_trace.specs.Marks.{begun, begun_by, ended, is_open, pending}
use Rattle.image_check.specs.Planned.{inodes_of}
use Rattle.image_check.specs.declared.fault.OpFault.{OpFault}
use Rattle.image_check.specs.declared.order.Noted.{Noted}
use Rattle.image_check.specs.declared.fault.OpFault.TheVariants.{Unknown, BegunTwice, NotPending, SharesInode}

-- the plan has an operation of this number
abbrev pub IsPlanned : List Operation → ℕ → Type 0
IsPlanned plan op = Contains (map (λ o. o.number) plan) op

-- O1: a mark of an operation that the plan lacks
abbrev pub IsUnknown : List Operation → Event → Type 0
IsUnknown plan (Store hart line offset width value) = ⊥
IsUnknown plan (Clean hart line) = ⊥
IsUnknown plan (Fence hart) = ⊥
IsUnknown plan (Begin hart op) = ¬ IsPlanned plan op
IsUnknown plan (End hart op) = ¬ IsPlanned plan op

-- O2: a Begin of an operation that began before
abbrev pub IsBegunTwice : List Event → Event → Type 0
IsBegunTwice before (Store hart line offset width value) = ⊥
IsBegunTwice before (Clean hart line) = ⊥
IsBegunTwice before (Fence hart) = ⊥
IsBegunTwice before (Begin hart op) = Contains (begun before) op
IsBegunTwice before (End hart op) = ⊥

-- O3: an End of an operation that this hart didn't begin, or that has ended
abbrev pub IsNotPending : List Event → Event → Type 0
IsNotPending before (Store hart line offset width value) = ⊥
IsNotPending before (Clean hart line) = ⊥
IsNotPending before (Fence hart) = ⊥
IsNotPending before (Begin hart op) = ⊥
IsNotPending before (End hart op) = ¬ (Contains before (Begin hart op) × ¬ Contains (ended before) op)

-- two operations add to one inode
pub record ShareInode (plan : List Operation) (one other : ℕ) : Type 0 where
  pub inode : ℕ
  pub of_one : Contains (inodes_of plan one) inode
  pub of_other : Contains (inodes_of plan other) inode

-- O4: a Begin of an operation that shares an inode with a pending one
abbrev pub IsSharing : List Operation → List Event → Event → Type 0
IsSharing plan before (Store hart line offset width value) = ⊥
IsSharing plan before (Clean hart line) = ⊥
IsSharing plan before (Fence hart) = ⊥
IsSharing plan before (Begin hart op) = (other : ℕ) × Contains (pending before) other × ShareInode plan other op
IsSharing plan before (End hart op) = ⊥

-- the event begins an operation that doesn't end in these events, and that shares an inode with this one
pub record OpensSharer (plan : List Operation) (events : List Event) (event : Event) (op : ℕ) : Type 0 where
  pub other : ℕ
  pub begins : begun_by event ≡ Some other
  pub open_still : is_open events other ≡ true
  pub shares : ShareInode plan other op

-- the event after these has the fault
abbrev pub HasFault : List Operation → List Event → Event → OpFault → Type 0
HasFault plan before event Unknown = IsUnknown plan event
HasFault plan before event BegunTwice = IsBegunTwice before event
HasFault plan before event NotPending = IsNotPending before event
HasFault plan before event SharesInode = IsSharing plan before event

abbrev pub code_of : OpFault → ℕ
code_of Unknown = 1
code_of BegunTwice = 2
code_of NotPending = 3
code_of SharesInode = 4

-- the event after these has the fault, and none of a lower code
pub record IsLowestFault (plan : List Operation) (before : List Event) (event : Event) (fault : OpFault) : Type 0 where
  pub has : HasFault plan before event fault
  pub lowest : (lower : OpFault) → code_of lower < code_of fault → ¬ HasFault plan before event lower

-- the first `count` events have no fault
abbrev pub AreSound : List Operation → List Event → ℕ → Type 0
AreSound plan events count =
    (i : ℕ) (event : Event) (fault : OpFault) → i < count → slice_get events i ≡ Some event → ¬ HasFault plan (take i events) event fault

-- it is the lowest fault of the first event that has one
pub record IsFirstFault (plan : List Operation) (events : List Event) (fault : OpFault) : Type 0 where
  pub number : ℕ
  pub event : Event
  pub place : slice_get events number ≡ Some event
  pub here : IsLowestFault plan (take number events) event fault
  pub earlier : AreSound plan events number

-- each operation that begins before this place has ended
pub record AreSettled (before : List Event) (place : ℕ) : Type 0 where
  pub within : place ≤ length before
  pub ended : (k : ℕ) (d : Event) (op : ℕ) → k < place → begun_by (slice_index_or before k d) ≡ Some op → Contains (ended before) op

-- what is known of the operations that begin in these events
pub record AreNoted (before : List Event) (noted : Noted) : Type 0 where
  pub greatest : (op : ℕ) → Contains (begun before) op → op ≤ noted.greatest
  pub settled : AreSettled before noted.settled
