use Rattle.std.proofs.Common.{◌≡◌, ◌∙◌, List, ℕ, map, drop, ap, sym, subst}
use Rattle.std.specs.List.Sorted.{IsStrictlyIncreasing}
use Rattle.crash_image.proofs.Naming.{none_given, not_given, one_given, renumbered_lines}
use Rattle.crash_image.proofs.named.renumber.Goals as goal

pub loop-at-init : goal.loop-at-init
loop-at-init c = none_given c.args.lines.now c.args.entries.now

pub give-requires : goal.give-requires
give-requires c =
    let same : map (λ (entry : ℕ × ℕ). entry.0) c.loop-at.entries ≡ map (λ (entry : ℕ × ℕ). entry.0) c.args.entries.now =
    ap (λ (es : List (ℕ × ℕ)). map (λ (entry : ℕ × ℕ). entry.0) es) c.loop-at.invariant.numbers
    ∙ renumbered_lines (drop c.loop-at.at c.args.lines.now) c.args.entries.now in
    subst (λ (ls : List ℕ). IsStrictlyIncreasing ls) (sym same) c.requires

pub returns-then-not-give-clause-there : goal.returns-then-not-give-clause-there
returns-then-not-give-clause-there c = (
  λ e. cc,
  λ all. absurd (not_given c.args.lines.now c.args.entries.now c.loop-at.at _ c.loop-at.entries c.loop-at-test.true c.loop-at.auto.at c.loop-at.invariant
      (λ there. let yes = c.give.ensures.there.1 there in let no = c.if-not-give.true in cc) all),
)

pub loop-at-preserved : goal.loop-at-preserved
loop-at-preserved c =
    one_given c.args.lines.now c.args.entries.now c.loop-at.at _ c.loop-at.entries c.give.new.entries c.loop-at-test.true c.loop-at.auto.at c.loop-at.invariant
    c.give.ensures.given (c.give.ensures.there.0 c.if-not-give.false)
