-- Why a check is refused.
use Rattle.std.proofs.Common.{◌≡◌, ℕ, List, Option, sym, subst}
use Rattle.nova_log.specs.declared.volume.entry.Entry.{Entry}
use Rattle.plan.specs.declared.operation.Operation.{Operation}
use Rattle.store_trace.specs.declared.event.Event.{Event}
use Rattle.image_check.specs.OrderFaults.{HasFault, IsFirstFault, IsLowestFault}
use Rattle.image_check.specs.PlanStates.{IsPlanState, IsRefusalAfter}
use Rattle.image_check.specs.Verdicts.{IsRefusal}
use Rattle.image_check.specs.declared.fault.CheckFault.{CheckFault}
use Rattle.image_check.specs.declared.fault.OpFault.{OpFault}
use Rattle.image_check.specs.declared.plan_state.PlanState.{PlanState}
use Rattle.image_check.specs.declared.fault.CheckFault.TheVariants as refused

pub refused_operation : (plan : List Operation) (events : List Event) (moment : ℕ) (fault : OpFault) → IsFirstFault plan events fault →
    IsRefusal plan events moment (refused.Operation fault)
refused_operation plan events moment fault h = h

-- after one more event
pub refused_after : (plan : List Operation) (state : PlanState) (event : Event) (fault : OpFault) →
    ((start : Option (List (List Entry))) (events : List Event) → IsPlanState plan start events state → IsLowestFault plan events event fault) →
    IsRefusalAfter plan state event (refused.Operation fault)
refused_after plan state event fault h = h

pub refused_memory : (plan : List Operation) (state : PlanState) (event : Event) (refusal : CheckFault) → refusal ≡ refused.Memory →
    ((start : Option (List (List Entry))) (events : List Event) (fault : OpFault) → IsPlanState plan start events state → ¬ HasFault plan events event fault) →
    IsRefusalAfter plan state event refusal
refused_memory plan state event refusal e faultless = subst (λ (f : CheckFault). IsRefusalAfter plan state event f) (sym e) faultless
