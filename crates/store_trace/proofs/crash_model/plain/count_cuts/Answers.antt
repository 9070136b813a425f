use Rattle.std.proofs.Common.{ℕ, ◌+◌, ◌*◌, reverse, arith, refl, ap}
use Rattle.store_trace.proofs.Product.{count_below}
use Rattle.store_trace.proofs.crash_model.plain.count_cuts.Goals as goal

-- the product so far is above the limit, and the whole product is at least that
pub returns-then-count-gt-MAX_CUTS-clause-none : goal.returns-then-count-gt-MAX_CUTS-clause-none
returns-then-count-gt-MAX_CUTS-clause-none c = (
  λ none. omega (
    arith,
    c.if-count-gt-MAX_CUTS.true,
    c.numbers-count.ensures.product,
    ap (λ (n : ℕ). c.numbers-count.result * n) c.loop-at.invariant.0,
    count_below (reverse c.args.steps.now) c.args.steps.now (c.loop-at.at + 1),
  ),
  λ more. refl,
)
