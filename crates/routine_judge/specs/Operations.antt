-- The operations of some events, in a set and a map.
use Rattle.std.specs.Prelude.{◌≡◌, ◌↔◌, ℕ, IsTrue, List, Some}
use Rattle.std.specs.BTreeMap.{get}
use Rattle.std.specs.BTreeSet.{contains}
use Rattle.std.specs.List.{Contains}
use Rattle.std.specs.Ordering.{nat_cmp}
use Rattle.store_trace.specs.Marks.{begun, ended}
use Rattle.routine_judge.specs.declared.history.operations.Operations.{Operations}
use Rattle.store_trace.specs.declared.event.Event.{Event}
use Rattle.store_trace.specs.declared.event.Event.TheVariants.{Begin}

-- the hart began the operation, which hasn't ended
abbrev pub IsPendingBy : List Event → ℕ → ℕ → Type 0
IsPendingBy before hart op = Contains before (Begin hart op) × ¬ Contains (ended before) op

-- these are the operations of the events, each of which began before it ended
pub record AreMarked (before : List Event) (now : Operations) : Type 0 where
  pub each_begun : (op : ℕ) → IsTrue (contains nat_cmp now.begun op) ↔ Contains (begun before) op
  pub each_pending : (op hart : ℕ) → (get nat_cmp now.pending op ≡ Some hart) ↔ IsPendingBy before hart op
  pub each_ended : (op : ℕ) → Contains (ended before) op → Contains (begun before) op
