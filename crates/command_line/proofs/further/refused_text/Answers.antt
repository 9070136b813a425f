use Rattle.std.proofs.Common.{rules}
use Rattle.command_line.proofs.further.refused_text.Goals as goal

pub returns-in-Some : goal.returns-in-Some
returns-in-Some g c = rw c.in-Some.is c.refused_in.ensures

pub returns-in-None : goal.returns-in-None
returns-in-None g c = rw c.in-None.is (search rules)
