use Rattle.std.proofs.Common.{rules}
use Rattle.debugger.proofs.sessions.command.clear_command.Goals as goal

pub returns-in-Ok-clause-ok : goal.returns-in-Ok-clause-ok
returns-in-Ok-clause-ok g c = search rules
