use Rattle.std.proofs.Common.{rules}
use Rattle.command_line.proofs.debug.status_of.Goals as goal

pub returns : goal.returns
returns c = search rules
