-- The shapes of the table are those of the line.
use Rattle.std.proofs.Common.{[]}
use Rattle.arguments.specs.Grammar.{making, assemble_shape, make_volume_shape, upgrade_shape}
use Rattle.arguments.proofs.grammar.with_making.Goals as goal

pub returns : goal.returns
unfolding making assemble_shape make_volume_shape upgrade_shape
returns c = c.with_all.ensures [] c.in_ok-bare.ensures
