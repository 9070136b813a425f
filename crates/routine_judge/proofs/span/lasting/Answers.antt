use Rattle.std.proofs.Common.{ap, ◌≡◌, ◌+◌, ◌-◌, ℕ, List, length, length-append, ◌∷◌, [], subst, sym, arith}
use Rattle.routine_judge.proofs.Spanned.{lasts_more, tells_change}
use Rattle.routine_judge.specs.SpanAnswers.{AreLasting}
use Rattle.routine_judge.proofs.span.lasting.Goals as goal

pub loop-at-preserved : goal.loop-at-preserved
loop-at-preserved c =
    let first = c.args.first in
    let at = c.loop-at.at in
    let lasts = c.loop-at.lasts.items in
    let from = c.lasting_from-from.result in
    let one = c.index-founds-at in
    let other = c.index-founds-at-in-loop-at in
    record {
      lasts = λ view same are.
          let place : first + length lasts ≡ first + at - 1 = omega (arith, c.loop-at.invariant.count) in
          let tells = tells_change view first at c.args.founds.now one.result other.result c.comes_to_same-changes.result are (omega arith) (omega arith) one.is other.is
          c.comes_to_same-changes.ensures in
          subst (λ (ns : List ℕ). AreLasting view first ns) (sym c.in_ok-push.ensures.items)
          (lasts_more view first (first + at - 1) lasts from (c.loop-at.invariant.lasts view same are) place (c.lasting_from-from.ensures view same tells));
      count =
          let size = length-append lasts (from ∷ []) in
          let items = ap (λ (ns : List ℕ). length ns) c.in_ok-push.ensures.items in
          omega (arith, size, items, c.loop-at.invariant.count);
    }
