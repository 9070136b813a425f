-- The shapes of the table are those of the line.
use Rattle.arguments.specs.Grammar.{making, running, run_shape, replay_shape, debug_shape}
use Rattle.arguments.proofs.grammar.with_running.Goals as goal

pub returns : goal.returns
unfolding running run_shape replay_shape debug_shape
returns c = c.with_all.ensures making c.in_ok-with_making.ensures
