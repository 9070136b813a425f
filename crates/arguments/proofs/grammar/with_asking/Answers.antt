-- The shapes of the table are those of the line.
use Rattle.std.proofs.Common.{◌++◌}
use Rattle.arguments.specs.Grammar.{making, running}
use Rattle.arguments.proofs.grammar.with_asking.Goals as goal

pub returns : goal.returns
returns c = rw c.asking.ensures at (c.with_all.ensures (making ++ running) c.in_ok-with_running.ensures)
