-- What a state of the search keeps of a plan's operations.
use Rattle.std.specs.Prelude.{◌↔◌, ◌<◌, ℕ, List, Option, length}
use Rattle.std.specs.List.{AllPairs, Contains}
use Rattle.nova_log.specs.declared.volume.entry.Entry.{Entry}
use Rattle.plan.specs.declared.operation.Operation.{Operation}
use Rattle.store_trace.specs.Marks.{ended}
use Rattle.store_trace.specs.declared.event.Event.{Event}
use Rattle.store_trace.specs.declared.event.Event.TheVariants.{Begin}
use Rattle.image_check.specs.Growth.{AreInOrder, AreOutcomes}
use Rattle.image_check.specs.OrderFaults.{AreSound, HasFault, IsLowestFault}
use Rattle.image_check.specs.declared.fault.CheckFault.{CheckFault}
use Rattle.image_check.specs.declared.fault.CheckFault.TheVariants as refused
use Rattle.image_check.specs.declared.fault.OpFault.{OpFault}
use Rattle.image_check.specs.declared.plan_state.PlanState.{PlanState}

-- the hart began the operation, which hasn't ended
abbrev pub IsPendingOn : List Event → ℕ → ℕ → Type 0
IsPendingOn events hart op = Contains events (Begin hart op) × ¬ Contains (ended events) op

-- After these events, whose marks are right, from the starting volume on, the state has what the legal volumes are made of, and the
-- operations that have ended. Both are in the order of the operations' numbers.
pub record IsPlanState (plan : List Operation) (start : Option (List (List Entry))) (events : List Event) (state : PlanState) : Type 0 where
  pub sound : AreSound plan events (length events)
  pub outcomes_are : AreOutcomes plan start events state.outcomes.settled state.outcomes.under_way.items
  pub ended_are : (op : ℕ) → Contains state.ended.items op ↔ Contains (ended events) op
  pub in_order : AreInOrder state.outcomes.under_way.items
  pub ended_in_order : AllPairs (λ x y. x < y) state.ended.items

-- Why there is no state after one more event: the event's lowest fault after whatever events led to the state. Out of memory is reported
-- only where the event has no fault after any of them.
abbrev pub IsRefusalAfter : List Operation → PlanState → Event → CheckFault → Type 0
IsRefusalAfter plan state event (refused.Operation fault) =
    (start : Option (List (List Entry))) (events : List Event) → IsPlanState plan start events state → IsLowestFault plan events event fault
IsRefusalAfter plan state event refused.NoSuchMoment = ⊥
IsRefusalAfter plan state event refused.Memory =
    (start : Option (List (List Entry))) (events : List Event) (fault : OpFault) → IsPlanState plan start events state → ¬ HasFault plan events event fault
