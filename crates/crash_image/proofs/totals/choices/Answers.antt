use Rattle.std.proofs.Common.{◌∙◌, refl, arith}
use Rattle.crash_image.proofs.Totaling.{choices_all, choices_next, choices_pass}
use Rattle.crash_image.proofs.totals.choices.Goals as goal

pub returns-then-count-gt-MAX_CUTS-clause-none : goal.returns-then-count-gt-MAX_CUTS-clause-none
returns-then-count-gt-MAX_CUTS-clause-none c = (
  λ none. choices_pass c.args.free.now c.loop-known.known-index c.loop-known.count c.from.result _ c.loop-known-test.true
      c.from.ensures c.loop-known.invariant.0 c.if-count-gt-MAX_CUTS.true,
  λ more. refl,
)

pub loop-known-preserved : goal.loop-known-preserved
loop-known-preserved c = (
  rw c.from.ensures
      (choices_next c.args.free.now c.loop-known.known-index c.loop-known.count _ c.loop-known-test.true ∙ c.loop-known.invariant.0),
  c.if-count-gt-MAX_CUTS.false,
)

pub returns-clause-some : goal.returns-clause-some
returns-clause-some c = (
  choices_all c.args.free.now c.loop-known.known-index c.loop-known.count c.loop-known-test.false c.loop-known.invariant.0,
  c.loop-known.invariant.1,
)

pub returns-clause-none : goal.returns-clause-none
returns-clause-none c = (
  λ none. cc,
  λ more. absurd (omega (
    arith,
    more,
    c.loop-known.invariant.1,
    choices_all c.args.free.now c.loop-known.known-index c.loop-known.count c.loop-known-test.false c.loop-known.invariant.0,
  )),
)
