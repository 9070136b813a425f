use Rattle.std.proofs.Common.{rules}
use Rattle.debugger.proofs.points.line_start.Goals as goal

pub returns : goal.returns
returns c = search rules
