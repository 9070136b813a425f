use Rattle.std.proofs.Common.{◌∙◌, refl, arith}
use Rattle.crash_image.proofs.Counting.{product_all, product_next, product_passes, small_product}
use Rattle.crash_image.proofs.bounds.product.Goals as goal

pub overflow_mul-count : goal.overflow_mul-count
overflow_mul-count c = omega (arith, small_product c.loop-line.count c.numbers-count.result c.loop-line.invariant.1 c.numbers-count.ensures.small)

pub returns-then-count-gt-MAX_CUTS-clause-none : goal.returns-then-count-gt-MAX_CUTS-clause-none
returns-then-count-gt-MAX_CUTS-clause-none c = (
  λ none. product_passes c.args.bounds.now c.loop-line.line-index c.loop-line.count c.numbers-count.result _ c.loop-line-test.true
      c.numbers-count.ensures.value c.loop-line.invariant.0 c.if-count-gt-MAX_CUTS.true,
  λ more. refl,
)

pub loop-line-preserved : goal.loop-line-preserved
loop-line-preserved c = (
  rw c.numbers-count.ensures.value
      (product_next c.args.bounds.now c.loop-line.line-index c.loop-line.count _ c.loop-line-test.true ∙ c.loop-line.invariant.0),
  c.if-count-gt-MAX_CUTS.false,
)

pub overflow_cast-result : goal.overflow_cast-result
overflow_cast-result c = omega (arith, c.loop-line.invariant.1)

pub returns-clause-some : goal.returns-clause-some
returns-clause-some c = (
  product_all c.args.bounds.now c.loop-line.line-index c.loop-line.count c.loop-line-test.false c.loop-line.invariant.0,
  c.loop-line.invariant.1,
)

pub returns-clause-none : goal.returns-clause-none
returns-clause-none c = (
  λ none. cc,
  λ more. absurd (omega (
    arith,
    more,
    c.loop-line.invariant.1,
    product_all c.args.bounds.now c.loop-line.line-index c.loop-line.count c.loop-line-test.false c.loop-line.invariant.0,
  )),
)
