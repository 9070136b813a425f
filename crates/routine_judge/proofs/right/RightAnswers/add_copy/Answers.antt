use Rattle.routine_judge.proofs.Gathering.{added_ok}
use Rattle.routine_judge.proofs.right.RightAnswers.add_copy.Goals as goal

pub returns-in_ok-add_answer-in-Ok-clause-ok : goal.returns-in_ok-add_answer-in-Ok-clause-ok
returns-in_ok-add_answer-in-Ok-clause-ok c =
    let added = c.in_ok-add_answer-in-Ok.ensures in
    added_ok _ _ _ _ _ c.in-Ok.is c.in_ok-copy-in-Ok.ensures added.answers added.cause added.on
