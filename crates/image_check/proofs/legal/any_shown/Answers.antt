use Rattle.std.proofs.Common.{◌∙◌, sym}
use Rattle.image_check.specs.Growth.{is_shown}
use Rattle.image_check.specs.Planned.{planned}
use Rattle.image_check.proofs.Looping.{none_last, none_more}
use Rattle.image_check.proofs.legal.any_shown.Goals as goal

pub loop-operation-preserved : goal.loop-operation-preserved
loop-operation-preserved c =
    none_more (λ op. is_shown c.args.settled.now c.args.shown.now (planned c.args.plan.now.operations op)) c.args.under_way.now
    c.loop-operation.operation-index _ c.loop-operation-test.true c.loop-operation.invariant (sym c.shows_planned.ensures ∙ c.if-shows_planned.false)

pub returns : goal.returns
returns c = λ f.
    none_last (λ op. is_shown c.args.settled.now c.args.shown.now (planned c.args.plan.now.operations op)) c.args.under_way.now
    c.loop-operation.operation-index c.loop-operation-test.false c.loop-operation.invariant
