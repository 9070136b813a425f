-- The shapes of the table are those of the line.
use Rattle.std.proofs.Common.{◌++◌}
use Rattle.arguments.specs.Grammar.{making, running, asking, telling}
use Rattle.arguments.proofs.grammar.with_judging.Goals as goal

pub returns : goal.returns
returns c = rw c.judging.ensures at (c.with_all.ensures (((making ++ running) ++ asking c.args.of_file) ++ telling) c.in_ok-with_telling.ensures)
