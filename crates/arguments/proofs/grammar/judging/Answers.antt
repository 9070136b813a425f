-- The shapes of the tables are those of the line.
use Rattle.std.proofs.Common.{refl}
use Rattle.arguments.specs.Grammar.{check_shape, judge_shape, judging_of_runs}
use Rattle.arguments.proofs.grammar.judging.Goals as goal

pub returns-else-of_file : goal.returns-else-of_file
unfolding judging_of_runs check_shape judge_shape
returns-else-of_file c = rw c.if-of_file.false refl
