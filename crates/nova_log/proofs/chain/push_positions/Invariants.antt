use Rattle.std.proofs.Common.{◌≡◌, ◌++◌}
use Rattle.nova_log.specs.Chains.{positions_in}
use Rattle.nova_log.proofs.chain.push_positions.Given as goal

abbrev pub invariant-loop-k : goal.invariant-loop-k
invariant-loop-k l = l.positions.items ≡ l.fn.positions.items ++ positions_in l.shape l.page l.k
