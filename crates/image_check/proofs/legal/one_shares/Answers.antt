use Rattle.std.proofs.Common.{sym, ◌∙◌, true≢false, refl}
use Rattle.image_check.proofs.Sharing.{none_sharing, one_sharing, unshared_next}
use Rattle.image_check.proofs.legal.one_shares.Goals as goal

pub returns : goal.returns
returns c = (
  λ f. absurd (true≢false (sym f)),
  λ s. absurd (none_sharing c.args.plan.now.operations c.args.under_way.now c.args.op c.loop-other.other-index c.loop-other-test.false c.loop-other.invariant s),
)

pub returns-then-shares_with : goal.returns-then-shares_with
returns-then-shares_with c = (
  λ t. one_sharing c.args.plan.now.operations c.args.under_way.now c.args.op c.loop-other.other-index _ c.loop-other-test.true
      (c.shares_with.ensures.0 c.if-shares_with.true),
  λ s. refl,
)

pub loop-other-preserved : goal.loop-other-preserved
loop-other-preserved c =
    unshared_next c.args.plan.now.operations c.args.under_way.now c.args.op c.loop-other.other-index _ c.loop-other-test.true c.loop-other.invariant
    (λ s. true≢false (sym (c.shares_with.ensures.1 s) ∙ c.if-shares_with.false))
