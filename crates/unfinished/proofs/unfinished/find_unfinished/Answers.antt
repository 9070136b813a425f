use Rattle.std.proofs.Common.{rules}
use Rattle.unfinished.proofs.Wholes.{whole_iff}
use Rattle.unfinished.proofs.unfinished.find_unfinished.Goals as goal

pub returns-clause-whole : goal.returns-clause-whole
returns-clause-whole c =
    whole_iff _ _ _ _ (record { numbers = c.in_ok-numbers.numbers.items; unended = search rules; all = search rules })
