use Rattle.std.proofs.Common.{◌∙◌, inl, inr, sym, true≢false}
use Rattle.routine_judge.proofs.Entering.{next_there, one_missing}
use Rattle.routine_judge.proofs.order.fitting.has_all_ended.Goals as goal
use Rattle.routine_judge.proofs.order.fitting.has_all_ended.Goals.{else-entry-via-then-entry+else-not-has, else-entry-via-else-entry}

pub returns-then-not-has : goal.returns-then-not-has
returns-then-not-has c = (
  λ f. absurd (true≢false (sym f)),
  λ h. absurd (one_missing c.args.entries.now c.args.word.now c.loop-entry.entry-index c.entry-item.result c.loop-entry-test.true c.entry-item.is c.if-entry.true
      (sym c.has.ensures ∙ c.if-not-has.true) h),
)

pub loop-entry-preserved : goal.loop-entry-preserved
loop-entry-preserved c =
    next_there c.args.entries.now c.args.word.now c.loop-entry.entry-index c.entry-item.result c.loop-entry-test.true c.entry-item.is c.loop-entry.invariant
    (elim c.else-entry.branch [
      | else-entry-via-then-entry+else-not-has w ↦ inr (sym w.has.ensures ∙ w.if-not-has.false)
      | else-entry-via-else-entry w ↦ inl w.if-entry.false
    ])
