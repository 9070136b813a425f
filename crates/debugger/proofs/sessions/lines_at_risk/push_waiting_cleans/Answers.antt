use Rattle.debugger.proofs.Tallies.{waiting_begun, waiting_told}
use Rattle.debugger.proofs.sessions.lines_at_risk.push_waiting_cleans.Goals as goal

pub loop-hart-init : goal.loop-hart-init
loop-hart-init c = waiting_begun _ c.args.tally.now

pub loop-hart-preserved : goal.loop-hart-preserved
loop-hart-preserved c = waiting_told _ _ _ c.args.tally.now c.loop-hart.hart c.loop-hart.invariant c.in_ok-push_waiting.ensures
