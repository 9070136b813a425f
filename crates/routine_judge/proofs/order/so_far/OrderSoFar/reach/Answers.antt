use Rattle.std.proofs.Common.{refl, arith}
use Rattle.routine_judge.proofs.OrderedSoFar.{order_kept, order_more}
use Rattle.routine_judge.proofs.order.so_far.OrderSoFar.reach.Goals as goal

pub loop-at-preserved : goal.loop-at-preserved
loop-at-preserved c = (
  refl,
  order_more c.args.events.now c.loop-at.at _ c.loop-at.self _ (omega arith) c.requires.sound c.loop-at.invariant.0 refl c.in_ok-take_in.ensures.ordered c.loop-at.invariant.1,
)

pub returns-in_err-take_in-clause-order : goal.returns-in_err-take_in-clause-order
returns-in_err-take_in-clause-order c =
    order_kept c.args.events.now c.loop-at.self c.take_in.new.self c.in_err-take_in.ensures.count c.in_err-take_in.ensures.err c.loop-at.invariant.1
