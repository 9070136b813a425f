use Rattle.std.proofs.Common.{◌∙◌, ◌&&◌, None, ap, get_or, refl, sym, true}
use Rattle.report.specs.Uses.{is_paid_in_vain, is_unfenced, is_unfenced_by, is_use, is_vain}
use Rattle.report.proofs.Telling.{count_all, no_event, sum_next, sum_stays}
use Rattle.report.proofs.redundant.waste.sums_of.Goals as goal
use Rattle.report.proofs.redundant.waste.sums_of.Goals.{then-is_clean_or_fence, else-is_clean_or_fence}

pub loop-at-preserved : goal.loop-at-preserved
loop-at-preserved c =
    let i = c.loop-at.invariant in
    elim c.if-is_clean_or_fence.branch [
      | then-is_clean_or_fence w ↦
          let one = sym (w.if-is_clean_or_fence.ensures) in
          rw w.sums-is (
            sum_next c.args.traced.now c.args.reasons.now c.loop-at.at no_event None is_use true _ 1 c.loop-at-test.true c.requires i.0 refl one,
            sum_next c.args.traced.now c.args.reasons.now c.loop-at.at no_event None is_vain w.is_paid_in_vain.result _ _ c.loop-at-test.true c.requires i.1 w.one_where.ensures
                (ap (λ b. b && is_paid_in_vain (get_or c.args.reasons.now c.loop-at.at None)) one ∙ sym w.is_paid_in_vain.ensures),
            sum_next c.args.traced.now c.args.reasons.now c.loop-at.at no_event None is_unfenced w.is_unfenced.result _ _ c.loop-at-test.true c.requires i.2
                w.one_where-then-is_clean_or_fence.ensures
                (ap (λ b. b && is_unfenced_by (get_or c.args.reasons.now c.loop-at.at None)) one ∙ sym w.is_unfenced.ensures),
          )
      | else-is_clean_or_fence w ↦
          let none = sym (w.if-is_clean_or_fence.ensures) in
          rw w.sums-is (
            sum_stays c.args.traced.now c.args.reasons.now c.loop-at.at no_event None is_use _ c.loop-at-test.true c.requires i.0 none,
            sum_stays c.args.traced.now c.args.reasons.now c.loop-at.at no_event None is_vain _ c.loop-at-test.true c.requires i.1
                (ap (λ b. b && is_paid_in_vain (get_or c.args.reasons.now c.loop-at.at None)) none),
            sum_stays c.args.traced.now c.args.reasons.now c.loop-at.at no_event None is_unfenced _ c.loop-at-test.true c.requires i.2
                (ap (λ b. b && is_unfenced_by (get_or c.args.reasons.now c.loop-at.at None)) none),
          )
    ]

pub returns-clause-uses : goal.returns-clause-uses
returns-clause-uses c = c.loop-at.invariant.0 ∙ count_all is_use _ _ c.loop-at.at c.loop-at-test.false c.requires

pub returns-clause-vain : goal.returns-clause-vain
returns-clause-vain c = c.loop-at.invariant.1 ∙ count_all is_vain _ _ c.loop-at.at c.loop-at-test.false c.requires

pub returns-clause-unfenced : goal.returns-clause-unfenced
returns-clause-unfenced c = c.loop-at.invariant.2 ∙ count_all is_unfenced _ _ c.loop-at.at c.loop-at-test.false c.requires
