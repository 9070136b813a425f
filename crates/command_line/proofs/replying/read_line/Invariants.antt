use Rattle.std.specs.Io.KnownBytes.{Consumes}
use Rattle.debugger.specs.Dialogue.{IsLine}
use Rattle.command_line.proofs.replying.read_line.Given as goal

abbrev pub invariant-loop : goal.invariant-loop
invariant-loop g l = IsLine l.line.items × Consumes (g.R.Read.remaining l.fn.input) (g.R.Read.remaining l.input) l.line.items
