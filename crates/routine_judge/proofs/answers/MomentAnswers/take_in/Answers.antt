use Rattle.routine_judge.proofs.Gathering.{added}
use Rattle.routine_judge.proofs.answers.MomentAnswers.take_in.Goals as goal

pub returns-clause-right : goal.returns-clause-right
returns-clause-right c = λ among before are.
    added c.args.run.now among c.args.moment c.in_ok-found.found c.args.self.now.right c.add.new.self c.in_ok-add.ensures.ok c.in_ok-found.ensures.ok before are
