-- Which operations of a run have begun, which have ended, and which of them had ended before which began.
-- Source: linearizability (Herlihy and Wing, TOPLAS 1990): an operation that ends before another begins stands before it.
use Rattle.std.specs.Prelude.{◌≡◌, ◌↔◌, ℕ, ◌<◌, ◌==◌, ◌&&◌, ◌||◌, Bool, false, not, filter, List, ◌∷◌, ◌++◌, length, map, IsTrue}
use Rattle.std.specs.List.{AllPairs, Contains, list_any}
use Rattle.store_trace.specs.Marks.{ended}
use Rattle.routine_judge.specs.MarkFaults.{AreSound, HasFault, IsLowestFault}
use Rattle.routine_judge.specs.Operations.{IsPendingBy}
use Rattle.routine_judge.specs.declared.history.fault.MarkFault.{MarkFault}
use Rattle.routine_judge.specs.declared.history.overlap.Overlap.TheVariants.{BetweenHarts}
use Rattle.routine_judge.specs.declared.order.entry.Entry.{Entry}
use Rattle.routine_judge.specs.declared.order.precedence.Precedence.{Precedence}
use Rattle.store_trace.specs.declared.event.Event.{Event}
use Rattle.store_trace.specs.declared.event.Event.TheVariants.{Begin}

-- no operation is pending
abbrev pub AreAtRest : List Event → Type 0
AreAtRest events = (hart op : ℕ) → ¬ IsPendingBy events hart op

-- operation x has ended before operation y begins
pub record EndsBefore (events : List Event) (x y : ℕ) : Type 0 where
  pub before : List Event
  pub after : List Event
  pub hart : ℕ
  pub is : events ≡ before ++ Begin hart y ∷ after
  pub ended_then : Contains (ended before) x

-- the event after these has the fault, where operations of several harts may overlap
abbrev pub HasHartFault : List Event → Event → MarkFault → Type 0
HasHartFault before event fault = HasFault BetweenHarts before event fault

-- and none of a lower code
abbrev pub IsLowestHartFault : List Event → Event → MarkFault → Type 0
IsLowestHartFault before event fault = IsLowestFault BetweenHarts before event fault

-- the first `count` events have no fault
abbrev pub AreSoundByHart : List Event → ℕ → Type 0
AreSoundByHart events count = AreSound BetweenHarts events count

-- of an operation that has begun: the hart that began it, whether it has ended, and those that had ended before it began
pub record Begun : Type 0 where
  pub op : ℕ
  pub hart : ℕ
  pub has_ended : Bool
  pub earlier : List ℕ

abbrev pub begun_of : Entry → Begun
begun_of entry = record { op = entry.op; hart = entry.hart; has_ended = entry.ended; earlier = entry.earlier.items }

-- the operations of a precedence
abbrev pub operations_in : Precedence → List Begun
operations_in precedence = map begun_of precedence.entries.items

-- the operation, which has ended if it is this one
abbrev pub with_end : ℕ → Begun → Begun
with_end op operation = record operation { has_ended = operation.has_ended || (operation.op == op) }

-- an operation that begins, behind those that have ended
abbrev pub begins_in : List Begun → ℕ → ℕ → Begun
begins_in operations hart op = record { op = op; hart = hart; has_ended = false; earlier = map (λ b. b.op) (filter (λ b. b.has_ended) operations) }

-- one of the entries is of the hart, and hasn't ended
abbrev pub has_pending : ℕ → List Entry → Bool
has_pending hart entries = list_any (λ entry. (entry.hart == hart) && not entry.ended) entries

-- the operations stand in the order of their numbers, and so each once
abbrev pub AreInOrder : List Begun → Type 0
AreInOrder operations = AllPairs (λ one other. one.op < other.op) operations

-- the events say this of the operation; those that had ended stand in the order of their numbers
pub record IsBegun (events : List Event) (operation : Begun) : Type 0 where
  pub begins : Contains events (Begin operation.hart operation.op)
  pub ends : IsTrue operation.has_ended ↔ Contains (ended events) operation.op
  pub ends_before : (x : ℕ) → Contains operation.earlier x ↔ EndsBefore events x operation.op
  pub in_order : AllPairs (λ x y. x < y) operation.earlier

-- these are the operations of the events, whose marks are sound
pub record AreOperations (events : List Event) (operations : List Begun) : Type 0 where
  pub sound : AreSoundByHart events (length events)
  pub each : (operation : Begun) → Contains operations operation → IsBegun events operation
  pub all : (hart op : ℕ) → Contains events (Begin hart op) → (operation : Begun) × Contains operations operation × (operation.op ≡ op) × (operation.hart ≡ hart)
  pub in_order : AreInOrder operations

-- this is the precedence of the operations of these events
abbrev pub AreOrdered : List Event → Precedence → Type 0
AreOrdered events precedence = AreOperations events (operations_in precedence)

-- of both the same has begun, by the same harts, the same has ended, and the same had ended before which began
pub record AreAlike (events others : List Event) : Type 0 where
  pub begin_alike : (hart op : ℕ) → Contains events (Begin hart op) ↔ Contains others (Begin hart op)
  pub end_alike : (op : ℕ) → Contains (ended events) op ↔ Contains (ended others) op
  pub order_alike : (x y : ℕ) → EndsBefore events x y ↔ EndsBefore others x y
