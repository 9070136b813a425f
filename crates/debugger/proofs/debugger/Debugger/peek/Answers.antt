use Rattle.std.proofs.Common.{rules}
use Rattle.debugger.proofs.debugger.Debugger.peek.Goals as goal

pub returns : goal.returns
returns c = search rules
