use Rattle.std.proofs.Common.{sym, subst}
use Rattle.std.proofs.lemmas.Result.{IfErr-weaker}
use Rattle.store_trace.specs.declared.event.Event.{Event}
use Rattle.image_check.specs.OrderFaults.{IsLowestFault}
use Rattle.image_check.proofs.plan_state.PlanState.check_event.Goals as goal

pub returns-in-Begin-clause-err : goal.returns-in-Begin-clause-err
returns-in-Begin-clause-err c =
    IfErr-weaker c.check_begin.result _ _
    (λ fault lowest start events is.
    subst (λ (event : Event). IsLowestFault c.args.plan.now.operations events event fault) (sym c.in-Begin.is) (lowest start events c.in-Begin.hart is))
    c.check_begin.ensures.err
