use Rattle.std.proofs.Common.{refl, sym, ◌∙◌, true≢false, arith}
use Rattle.image_check.proofs.Beginning.{shared_from_here, unshared_more}
use Rattle.image_check.proofs.Settling.{settled_unshared}
use Rattle.image_check.proofs.Sharing.{all_shared}
use Rattle.image_check.proofs.order.shares_pending.Goals as goal

pub returns : goal.returns
returns c = (
  λ f. absurd (true≢false (sym f)),
  λ s. absurd (all_shared c.args.plan.now.operations c.args.before.now c.args.op (λ k d l. c.loop-index.invariant k d (omega arith)) s),
)

pub returns-then-opens_sharer : goal.returns-then-opens_sharer
returns-then-opens_sharer c = (
  λ t. shared_from_here c.args.plan.now.operations c.args.before.now c.loop-index.index _ c.args.op c.loop-index-test.true c.requires.sound
      (c.opens_sharer.ensures.0 c.if-opens_sharer.true),
  λ s. refl,
)

pub loop-index-preserved : goal.loop-index-preserved
loop-index-preserved c =
    unshared_more c.args.plan.now.operations c.args.before.now c.loop-index.index _ c.args.op c.loop-index-test.true c.loop-index.invariant
    (λ o. true≢false (sym (c.opens_sharer.ensures.1 o) ∙ c.if-opens_sharer.false))

pub loop-index-init : goal.loop-index-init
loop-index-init c = settled_unshared c.args.plan.now.operations c.args.before.now c.args.from c.args.op c.requires.settled
