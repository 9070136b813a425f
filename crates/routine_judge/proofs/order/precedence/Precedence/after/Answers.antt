use Rattle.routine_judge.proofs.order.precedence.Precedence.after.Goals as goal

pub returns-clause-ok : goal.returns-clause-ok
returns-clause-ok c = λ events h. c.in_ok-entries.ensures events h (c.in_default.ensures.ok events h)
