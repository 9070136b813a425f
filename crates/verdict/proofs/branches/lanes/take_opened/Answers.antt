use Rattle.verdict.proofs.Taking.{added}
use Rattle.verdict.proofs.branches.lanes.take_opened.Goals as goal

pub returns-in-Ok-clause-pieces : goal.returns-in-Ok-clause-pieces
returns-in-Ok-clause-pieces g c =
    added c.append.result c.args.lane.now.opened c.in-Ok.theirs c.append.new.self.items c.args.pieces.now.items c.in-Ok.is c.append.ensures.items
