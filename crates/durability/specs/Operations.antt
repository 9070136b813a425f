-- Operations by the marks of their harts. Marks have no faults here: a number may be used again, and operations of one hart may overlap.
use Rattle.std.specs.Prelude.{◌≡◌, ℕ, ◌+◌, ◌-◌, ◌<◌, ◌≤◌, ◌==◌, ◌&&◌, Bool, List, [], ◌∷◌, if◌then◌else◌, length, filter, reverse, take, drop, slice_get, slice_index_or, Option, Some, None}
use Rattle.std.specs.BTreeMap.{get}
use Rattle.std.specs.Ordering.{nat_cmp, ordering_then}
use Rattle.std.specs.declared.cmp.Ordering.{Ordering}
use Rattle.store_trace.specs.declared.event.Event.{Event}
use Rattle.store_trace.specs.declared.event.Event.TheVariants.{Store, Clean, Fence, Begin, End}
use Rattle.durability.specs.Numbered.{event_at}
use Rattle.durability.specs.declared.operations.Ended.{Ended}
use Rattle.durability.specs.declared.operations.OpenOperations.{OpenOperations}

-- after these events, the newest first: the numbers of the Begins of operation op by hart h that no End has ended, the last one first.
-- An End ends the first of them, where there is one.
abbrev pub open_begins : ℕ → ℕ → List Event → List ℕ
open_begins h op [] = []
open_begins h op (Store g l offset width value ∷ p) = open_begins h op p
open_begins h op (Clean g l ∷ p) = open_begins h op p
open_begins h op (Fence g ∷ p) = open_begins h op p
open_begins h op (Begin g other ∷ p) =
    if (g == h) && (other == op) then (length p + 1) ∷ open_begins h op p else open_begins h op p
open_begins h op (End g other ∷ p) =
    if (g == h) && (other == op) then drop 1 (open_begins h op p) else open_begins h op p

-- the Begins of operation op by hart h that are open at moment m, the last one first
abbrev pub open_at : List Event → ℕ → ℕ → ℕ → List ℕ
open_at events m h op = open_begins h op (reverse (take m events))

-- event n ends operation op of hart h, which began with event b
pub record IsEndOf (events : List Event) (n h op b : ℕ) : Type 0 where
  pub ends : event_at events n ≡ Some (End h op)
  pub begins : slice_get (open_at events (n - 1) h op) 0 ≡ Some b

-- event b is a Begin of operation op by hart h, made by moment m, that no End by then has ended
pub record IsOpenBegin (events : List Event) (m h op b : ℕ) : Type 0 where
  pub made : b ≤ m
  pub begins : event_at events b ≡ Some (Begin h op)
  pub open_then : (n : ℕ) → n ≤ m → ¬ IsEndOf events n h op b

-- b is the last number of which P holds
pub record IsLast (P : ℕ → Type 0) (b : ℕ) : Type 0 where
  pub holds : P b
  pub last : (c : ℕ) → P c → c ≤ b

-- event n is an End of operation op by hart h, and event b the last Begin of it before that no End before has ended
pub record IsEndOfLast (events : List Event) (n h op b : ℕ) : Type 0 where
  pub ends : event_at events n ≡ Some (End h op)
  pub begins : IsLast (IsOpenBegin events (n - 1) h op) b

-- no operation of hart h is open at moment m
abbrev pub IsOutside : List Event → ℕ → ℕ → Type 0
IsOutside events m h = (op : ℕ) → open_at events m h op ≡ []

-- operations by their harts, and of each hart by their numbers
abbrev pub operation_cmp : (ℕ × ℕ) → (ℕ × ℕ) → Ordering
operation_cmp one other = ordering_then (nat_cmp one.0 other.0) (nat_cmp one.1 other.1)

-- this is operation op of hart h
abbrev pub is_operation : ℕ → ℕ → (ℕ × ℕ) → Bool
is_operation h op one = (one.0 == h) && (one.1 == op)

-- this is an operation of hart h
abbrev pub is_of_hart : ℕ → (ℕ × ℕ) → Bool
is_of_hart h one = one.0 == h

-- these without the first one that is operation op of hart h
abbrev pub without : ℕ → ℕ → List (ℕ × ℕ) → List (ℕ × ℕ)
without h op [] = []
without h op (x ∷ xs) = if is_operation h op x then xs else x ∷ without h op xs

-- the operations that are open after these events, the newest first, each as often as it is open
abbrev pub open_operations : List Event → List (ℕ × ℕ)
open_operations [] = []
open_operations (Store g l offset width value ∷ p) = open_operations p
open_operations (Clean g l ∷ p) = open_operations p
open_operations (Fence g ∷ p) = open_operations p
open_operations (Begin g op ∷ p) = (g, op) ∷ open_operations p
open_operations (End g op ∷ p) = without g op (open_operations p)

-- how many operations of hart h are open after these events, the newest first
abbrev pub open_of_hart : ℕ → List Event → ℕ
open_of_hart h p = length (filter (is_of_hart h) (open_operations p))

-- from the first one on, each with the one that is told at its place, these are the numbers
abbrev pub AreLinked : List (Option ℕ) → Option ℕ → List ℕ → Type 0
AreLinked before first [] = first ≡ None
AreLinked before first (b ∷ bs) =
    (first ≡ Some b) × (0 < b) × (b ≤ length before) × AreLinked before (slice_index_or before (b - 1) None) bs

-- these are the operations that are open after these events, the newest first
pub record AreOpenAfter (p : List Event) (now : OpenOperations) : Type 0 where
  pub size : length now.before.items ≡ length p
  pub begins : (h op : ℕ) → AreLinked now.before.items (get operation_cmp now.last (h, op)) (open_begins h op p)
  pub counts : (h d : ℕ) → h < 8 → slice_index_or now.counts h d ≡ open_of_hart h p

-- these are the operations that are open at moment m
abbrev pub AreOpen : List Event → ℕ → OpenOperations → Type 0
AreOpen events m now = AreOpenAfter (reverse (take m events)) now

-- the operation that event n ends, and None where it ends none
abbrev pub IsEndedBy : List Event → ℕ → Option Ended → Type 0
IsEndedBy events n None = (h op b : ℕ) → ¬ IsEndOf events n h op b
IsEndedBy events n (Some ended) = (ended.end ≡ n) × IsEndOf events n ended.hart ended.operation ended.begin
