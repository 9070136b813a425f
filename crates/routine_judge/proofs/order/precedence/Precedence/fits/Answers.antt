use Rattle.routine_judge.proofs.Judged.{fits_else, fits_then}
use Rattle.routine_judge.proofs.order.precedence.Precedence.fits.Goals as goal

pub returns-then-has_all_ended : goal.returns-then-has_all_ended
returns-then-has_all_ended c = λ w p is rest h.
    fits_then w p c.args.word.now c.args.self.now.entries.items c.deref.result.now c.operations-operations.result.now c.has_all_ended.result c.may_follow_all.result
    c.operations-operations.ensures c.deref.ensures.value is rest h c.has_all_ended.ensures c.if-has_all_ended.true (c.may_follow_all.ensures h.in_order)

pub returns-else-has_all_ended : goal.returns-else-has_all_ended
returns-else-has_all_ended c = λ w p is rest h.
    fits_else w p c.args.word.now c.args.self.now.entries.items c.deref.result.now c.operations-operations.result.now c.has_all_ended.result
    c.operations-operations.ensures c.deref.ensures.value is h c.has_all_ended.ensures c.if-has_all_ended.false
