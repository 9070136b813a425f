-- The shapes of the table are those of the line.
use Rattle.std.proofs.Common.{◌++◌}
use Rattle.arguments.specs.Grammar.{making, running, asking, telling, judging, judging_programs}
use Rattle.arguments.proofs.grammar.with_drawing.Goals as goal

pub returns : goal.returns
returns c = rw c.drawing.ensures at (c.with_all.ensures (((((making ++ running) ++ asking c.args.of_file) ++ telling) ++ judging c.args.of_file) ++ judging_programs) c.in_ok-with_judging_programs.ensures)
