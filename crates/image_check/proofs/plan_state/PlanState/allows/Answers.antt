use Rattle.std.proofs.lemmas.Result.{IfOk-weaker}
use Rattle.std.specs.Result.{result_ok}
use Rattle.image_check.proofs.Following.{apart_state}
use Rattle.image_check.proofs.plan_state.PlanState.allows.Goals as goal

pub returns : goal.returns
returns c =
    IfOk-weaker c.has.result _ _
    (λ legal decides start events is.
    decides start events is.outcomes_are (apart_state c.args.plan.now.operations (result_ok start) events c.args.self.now is)) c.has.ensures
