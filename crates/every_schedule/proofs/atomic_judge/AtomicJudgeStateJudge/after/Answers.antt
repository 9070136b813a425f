use Rattle.every_schedule.proofs.atomic_judge.AtomicJudgeStateJudge.after.Goals as goal

pub returns-in-Ok : goal.returns-in-Ok
returns-in-Ok c = rw c.in-Ok.is at c.in_ok-next.ensures.ok
