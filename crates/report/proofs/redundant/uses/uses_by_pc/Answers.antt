use Rattle.std.proofs.Common.{None, sym, refl}
use Rattle.report.proofs.Counting.{all_used, step_other, step_used}
use Rattle.report.proofs.redundant.uses.uses_by_pc.Goals as goal
use Rattle.report.proofs.redundant.uses.uses_by_pc.Goals.{then-is_clean_or_fence+in_ok-add_use, else-is_clean_or_fence}

pub loop-at-preserved : goal.loop-at-preserved
loop-at-preserved c = elim c.if-is_clean_or_fence.branch [
  | then-is_clean_or_fence+in_ok-add_use w ↦
      rw w.uses-is (step_used c.args.traced.now c.args.reasons.now c.loop-at.at _ _ c.loop-at.uses w.add_use.new.uses _ _ _ c.loop-at-test.true c.requires
      (sym (w.if-is_clean_or_fence.ensures)) refl w.hart_of.ensures w.is_paid_in_vain-is_vain.ensures w.in_ok-add_use.ensures c.loop-at.invariant)
  | else-is_clean_or_fence w ↦
      rw w.uses-is (step_other c.args.traced.now c.args.reasons.now c.loop-at.at _ None c.loop-at.uses c.loop-at-test.true c.requires
      (sym (w.if-is_clean_or_fence.ensures)) c.loop-at.invariant)
]

pub returns : goal.returns
returns c = all_used _ _ c.loop-at.at c.loop-at.uses c.loop-at-test.false c.requires c.loop-at.invariant
