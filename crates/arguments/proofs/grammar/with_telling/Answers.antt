-- The shapes of the table are those of the line.
use Rattle.std.proofs.Common.{◌++◌}
use Rattle.arguments.specs.Grammar.{making, running, asking, telling, explain_shape}
use Rattle.arguments.proofs.grammar.with_telling.Goals as goal

pub returns : goal.returns
unfolding telling explain_shape
returns c = c.with_all.ensures ((making ++ running) ++ asking c.args.of_file) c.in_ok-with_asking.ensures
