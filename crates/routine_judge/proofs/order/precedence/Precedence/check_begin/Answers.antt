use Rattle.std.proofs.Common.{◌∙◌, List, ap, sym, true≢false}
use Rattle.routine_judge.proofs.Entering.{hart_free, hart_pending}
use Rattle.routine_judge.proofs.Faulting.{begin_faultless, begin_overlaps, begin_twice}
use Rattle.routine_judge.proofs.Preceding.{numbered}
use Rattle.routine_judge.specs.Order.{has_pending, operations_in}
use Rattle.routine_judge.specs.declared.history.overlap.Overlap.TheVariants.{BetweenHarts}
use Rattle.routine_judge.specs.declared.order.entry.Entry.{Entry}
use Rattle.routine_judge.proofs.order.precedence.Precedence.check_begin.Goals as goal

pub returns-then-has_begun-clause-err : goal.returns-then-has_begun-clause-err
returns-then-has_begun-clause-err c = λ events h.
    begin_twice BetweenHarts events c.args.hart c.args.op
    ((numbered events (operations_in c.args.self.now) c.args.op h).0 ((c.has_begun.ensures h.in_order).0 c.if-has_begun.true))

pub returns-then-has_pending-clause-err : goal.returns-then-has_pending-clause-err
returns-then-has_pending-clause-err c = λ events h.
    let so = ap (λ (es : List Entry). has_pending c.args.hart es) (sym c.deref.ensures.value) ∙ sym c.has_pending.ensures ∙ c.if-has_pending.true in
    let other = hart_pending events c.args.self.now.entries.items c.args.hart h so in
    begin_overlaps BetweenHarts events c.args.hart c.args.op
    (λ b. true≢false (sym ((c.has_begun.ensures h.in_order).1 ((numbered events (operations_in c.args.self.now) c.args.op h).1 b)) ∙ c.if-has_begun.false)) other

pub returns-clause-ok : goal.returns-clause-ok
returns-clause-ok c = λ events h.
    let so = ap (λ (es : List Entry). has_pending c.args.hart es) (sym c.deref.ensures.value) ∙ sym c.has_pending.ensures ∙ c.if-has_pending.false in
    begin_faultless BetweenHarts events c.args.hart c.args.op
    (λ b. true≢false (sym ((c.has_begun.ensures h.in_order).1 ((numbered events (operations_in c.args.self.now) c.args.op h).1 b)) ∙ c.if-has_begun.false))
    (λ other. hart_free events c.args.self.now.entries.items c.args.hart h so other.0 other.1)
