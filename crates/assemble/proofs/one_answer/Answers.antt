use Rattle.assemble.proofs.OneAnswer.{no_fault, one_fault}
use Rattle.assemble.proofs.OneObject.{one_object}
use Rattle.assemble.proofs.one_answer.Goals as goal

pub returns-clause-object : goal.returns-clause-object
returns-clause-object c = one_object c.one_word.ensures

pub returns-clause-no_fault : goal.returns-clause-no_fault
returns-clause-no_fault c = λ source object fault a first. no_fault source object fault a first

pub returns-clause-fault : goal.returns-clause-fault
returns-clause-fault c = λ source fault other a b. one_fault source fault other a b
