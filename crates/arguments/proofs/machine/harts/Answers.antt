use Rattle.arguments.proofs.machine.harts.Goals as goal

pub returns-clause-ok : goal.returns-clause-ok
returns-clause-ok c = c.number.ensures.ok

pub returns-clause-within : goal.returns-clause-within
returns-clause-within c = c.number.ensures.within

pub returns-clause-err : goal.returns-clause-err
returns-clause-err c = c.number.ensures.err
