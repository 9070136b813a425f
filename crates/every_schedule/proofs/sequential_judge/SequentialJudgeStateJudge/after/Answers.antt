use Rattle.every_schedule.proofs.Sequencing.{kept_after, none_after}
use Rattle.every_schedule.proofs.sequential_judge.SequentialJudgeStateJudge.after.Goals as goal

pub returns-in_ok-after-in-Some : goal.returns-in_ok-after-in-Some
returns-in_ok-after-in-Some c =
    let arm = c.in_ok-after-in-Some in
    rw c.in-Some.is (kept_after arm.field-0 c.in-Some.state c.args.mark arm.ensures.some arm.ensures.none)

pub returns-in-None : goal.returns-in-None
returns-in-None c = rw c.in-None.is (λ events wrong. none_after events c.args.mark wrong)
