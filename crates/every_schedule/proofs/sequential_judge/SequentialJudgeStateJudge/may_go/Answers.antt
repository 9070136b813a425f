use Rattle.every_schedule.proofs.Sequencing.{goes_on}
use Rattle.every_schedule.proofs.sequential_judge.SequentialJudgeStateJudge.may_go.Goals as goal

pub returns-in-Some-clause-may : goal.returns-in-Some-clause-may
returns-in-Some-clause-may c = λ goes. rw c.in-Some.is (goes_on c.in-Some.state c.args.hart c.may_go.result c.may_go.ensures goes)
