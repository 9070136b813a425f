use Rattle.std.proofs.Common.{◌∙◌, sym, true≢false}
use Rattle.routine_judge.proofs.Faulting.{begin_faultless, begin_overlaps}
use Rattle.routine_judge.proofs.Marked.{never_begun}
use Rattle.routine_judge.proofs.history.operations.Operations.check_begin.Goals as goal

pub returns-then-is_pending_before-clause-err : goal.returns-then-is_pending_before-clause-err
returns-then-is_pending_before-clause-err c = λ before a.
    begin_overlaps c.args.overlap before c.args.hart c.args.op
    (never_begun before c.args.self.now c.args.op a (sym c.contains.ensures ∙ c.if-contains.false))
    ((c.is_pending_before.ensures before a).0 c.if-is_pending_before.true)

pub returns-clause-ok : goal.returns-clause-ok
returns-clause-ok c = λ before a.
    begin_faultless c.args.overlap before c.args.hart c.args.op
    (never_begun before c.args.self.now c.args.op a (sym c.contains.ensures ∙ c.if-contains.false))
    (λ pends. true≢false (sym ((c.is_pending_before.ensures before a).1 pends) ∙ c.if-is_pending_before.false))
