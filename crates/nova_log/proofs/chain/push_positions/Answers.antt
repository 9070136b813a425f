use Rattle.nova_log.proofs.Chains.{positions_pushed}
use Rattle.nova_log.proofs.chain.push_positions.Goals as goal

pub loop-k-preserved : goal.loop-k-preserved
loop-k-preserved c =
    positions_pushed c.args.shape.now c.args.page c.loop-k.k c.args.positions.now.items c.loop-k.positions.items c.push.new.self.items
    c.loop-k.invariant c.in_ok-push.ensures.items
