use Rattle.std.proofs.Common.{List, [], Option, subst}
use Rattle.image_check.specs.PlanStates.{IsPlanState}
use Rattle.nova_log.specs.declared.volume.entry.Entry.{Entry}
use Rattle.every_schedule.proofs.plan_judge.PlanJudgeStateJudge.start.Goals as goal

pub returns : goal.returns
returns c = subst (λ (start : Option (List (List Entry))). IsPlanState c.args.self.now.plan.now.operations start [] c.first.result) c.in_ok-before.ensures
    (c.first.ensures c.args.self.now.plan.now.operations)
