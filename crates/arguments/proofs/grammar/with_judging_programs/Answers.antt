-- The shapes of the table are those of the line.
use Rattle.std.proofs.Common.{◌++◌}
use Rattle.arguments.specs.Grammar.{making, running, asking, telling, judging, judging_programs, check_all_shape, judge_all_shape, answer_shape}
use Rattle.arguments.proofs.grammar.with_judging_programs.Goals as goal

pub returns : goal.returns
unfolding judging_programs check_all_shape judge_all_shape answer_shape
returns c = c.with_all.ensures ((((making ++ running) ++ asking c.args.of_file) ++ telling) ++ judging c.args.of_file) c.in_ok-with_judging.ensures
