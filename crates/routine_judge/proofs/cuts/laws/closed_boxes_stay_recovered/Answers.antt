use Rattle.routine_judge.proofs.StayingRight.{stays_right, stays_right_to}
use Rattle.routine_judge.proofs.cuts.laws.closed_boxes_stay_recovered.Goals as goal

pub returns-clause-any : goal.returns-clause-any
returns-clause-any c = λ view m source boxes is starts closed. stays_right view m source boxes is starts closed

pub returns-clause-counted : goal.returns-clause-counted
returns-clause-counted c = λ view m most source boxes is starts closed. stays_right_to view m most source boxes is starts closed
