use Rattle.std.proofs.Common.{rules, sym}
use Rattle.report.proofs.json.ActMembersDisplay.fmt.Goals as goal

pub returns-in-Store-clause-writes : goal.returns-in-Store-clause-writes
returns-in-Store-clause-writes g c = rw c.in-Store.is (rw (sym (rw c.from.ensures at c.stored-value.ensures)) (search rules))
