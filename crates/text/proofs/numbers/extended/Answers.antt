use Rattle.std.proofs.Common.{rules}
use Rattle.text.proofs.Digits.{larger}
use Rattle.text.proofs.numbers.extended.Goals as goal

pub returns-in-None : goal.returns-in-None
returns-in-None c = search (rules, larger)
