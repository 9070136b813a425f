use Rattle.std.proofs.Common.{[]}
use Rattle.assemble.proofs.First.{early_some, long_none}
use Rattle.assemble.proofs.FirstPass.{placed_none}
use Rattle.assemble.proofs.code_of_first.Goals as goal

pub returns-in-Ok : goal.returns-in-Ok
returns-in-Ok c = λ size long other. long_none size c.args.line.now long (c.in-Ok.ensures.none [] (placed_none _ _ c.start-position.ensures c.new-labels.ensures))

pub returns : goal.returns
returns c = λ size long other. early_some size [] c.args.line.now _ (c.in-Err.ensures.err other [] (placed_none _ _ c.start-position.ensures c.new-labels.ensures))
