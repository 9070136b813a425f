use Rattle.std.proofs.Common.{rules}
use Rattle.debugger.proofs.debugger.Debugger.regs.Goals as goal

pub returns-clause-ok : goal.returns-clause-ok
returns-clause-ok c = search rules
