use Rattle.image_check.proofs.Looping.{shown_last, shown_next}
use Rattle.image_check.proofs.legal.as_shown.Goals as goal

pub loop-operation-preserved : goal.loop-operation-preserved
loop-operation-preserved c =
    shown_next c.args.plan.now.operations c.args.settled.now c.args.shown.now c.loop-operation.expected c.add_shown.new.expected c.args.under_way.now
    c.loop-operation.operation-index _ c.loop-operation-test.true c.loop-operation.invariant c.in_ok-add_shown.ensures

pub returns : goal.returns
returns c =
    shown_last c.args.plan.now.operations c.args.settled.now c.args.shown.now c.loop-operation.expected c.args.under_way.now c.loop-operation.operation-index
    c.loop-operation-test.false c.loop-operation.invariant
