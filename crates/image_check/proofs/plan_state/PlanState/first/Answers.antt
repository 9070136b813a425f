use Rattle.image_check.proofs.Following.{first_state}
use Rattle.image_check.proofs.plan_state.PlanState.first.Goals as goal

pub returns : goal.returns
returns c = λ plan. first_state plan c.args.start _ (c.new.ensures plan) c.new-2.ensures.items
