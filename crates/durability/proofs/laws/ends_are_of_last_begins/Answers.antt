use Rattle.durability.proofs.Pairs.{end_of_last, last_of_end}
use Rattle.durability.proofs.laws.ends_are_of_last_begins.Goals as goal

pub returns : goal.returns
returns c = λ events end hart operation begin. (end_of_last events end hart operation begin, last_of_end events end hart operation begin)
