use Rattle.std.proofs.Common.{rules}
use Rattle.command_line.proofs.run.capacity.Goals as goal

pub returns-in-Some : goal.returns-in-Some
returns-in-Some c = search rules
