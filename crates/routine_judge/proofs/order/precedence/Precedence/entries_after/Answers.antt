use Rattle.std.proofs.Common.{◌∙◌, List, ap}
use Rattle.std.specs.Prelude.{map}
use Rattle.std.proofs.lemmas.Result.{IfOk-weaker}
use Rattle.routine_judge.proofs.Preceding.{begins_next, ends_next, others_next}
use Rattle.routine_judge.specs.Order.{begun_of, operations_in, with_end}
use Rattle.routine_judge.specs.declared.order.entry.Entry.{Entry}
use Rattle.routine_judge.proofs.order.precedence.Precedence.entries_after.Goals as goal

pub returns-in-Begin : goal.returns-in-Begin
returns-in-Begin c =
    IfOk-weaker c.entries_with.result _ _
    (λ entries both events h none.
    begins_next events (operations_in c.args.self.now) (map begun_of entries.items) c.args.mark c.in-Begin.hart c.in-Begin.op c.in-Begin.is h none both)
    c.entries_with.ensures

pub returns-in-End : goal.returns-in-End
returns-in-End c =
    IfOk-weaker c.copies_with_end.result _ _
    (λ entries made events h none.
    ends_next events (operations_in c.args.self.now) (map begun_of entries.items) c.args.mark c.in-End.hart c.in-End.op c.in-End.is h none
    (made ∙ ap (λ (es : List Entry). map (with_end c.in-End.op) (map begun_of es)) c.deref.ensures.value))
    c.copies_with_end.ensures

pub returns-in-Store : goal.returns-in-Store
returns-in-Store c =
    IfOk-weaker c.copies.result _ _
    (λ entries made events h none.
    others_next events (operations_in c.args.self.now) (map begun_of entries.items) c.args.mark c.in-Store.is h
    (made ∙ ap (λ (es : List Entry). map begun_of es) c.deref-in-Store.ensures.value))
    c.copies.ensures
