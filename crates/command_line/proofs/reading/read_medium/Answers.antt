use Rattle.std.proofs.Common.{rules}
use Rattle.command_line.proofs.reading.read_medium.Goals as goal

pub returns-in-Some : goal.returns-in-Some
returns-in-Some g c = rw c.in-Some.is (rw c.as_str.ensures.value at c.read_named_medium.ensures)

pub returns-in-None : goal.returns-in-None
returns-in-None g c = rw c.in-None.is (search rules)
