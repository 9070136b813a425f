-- One moment more, by what the routine comes to on its full image.
use Rattle.routine_judge.proofs.Gathering.{on_ok}
use Rattle.routine_judge.proofs.GivenAnswers.{given_answer, given_none}
use Rattle.routine_judge.proofs.right_moments.add.Goals as goal

pub returns-in-Ok : goal.returns-in-Ok
returns-in-Ok c =
    on_ok c.add_answer.result
    (λ added view among before shown are.
    given_answer view among (record { moment = c.args.moment; answer = c.in-Ok.answer }) c.args.right.now.items c.add_answer.new.right.items added before
    (rw c.in-Ok.is at shown) are)
    c.add_answer.ensures

pub returns-in-Err : goal.returns-in-Err
returns-in-Err c = λ view among before shown are.
    given_none view among c.args.moment c.in-Err.field-0 c.args.right.now.items before (rw c.in-Err.is at shown) are
