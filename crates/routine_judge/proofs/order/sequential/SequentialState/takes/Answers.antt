use Rattle.std.proofs.Common.{◌∙◌, ◌≡◌, Bool, List, ap, false, not, refl, sym, true, true≢false}
use Rattle.routine_judge.proofs.Sequencing.{begin_again, begin_overlapping, begin_taken, end_refused, end_taken, has_so, none_told, so_has, some_told}
use Rattle.routine_judge.specs.Fitting.{has}
use Rattle.routine_judge.specs.declared.order.operation.Operation.{Operation}
use Rattle.routine_judge.proofs.order.sequential.SequentialState.takes.Goals as goal

not_false : (b : Bool) → not b ≡ false → b ≡ true
not_false true e = refl
not_false false e = absurd cc

not_true : (b : Bool) → not b ≡ true → b ≡ false
not_true true e = absurd cc
not_true false e = refl

pub returns-then-is_none-clause-yes : goal.returns-then-is_none-clause-yes
returns-then-is_none-clause-yes c = λ events fault is t.
    let told = c.has.ensures ∙ ap (λ (os : List Operation). has os c.in-Begin.op) c.operations.ensures in
    rw c.in-Begin.is
    (begin_taken events c.in-Begin.hart c.in-Begin.op c.args.self.now is (none_told c.args.self.now.pending c.is_none.result c.is_none.ensures c.if-is_none.true)
    (λ m. true≢false (sym (told ∙ has_so c.args.self.now.done.operations.items c.in-Begin.op m) ∙ not_true c.has.result t)) fault)

pub returns-then-is_none-clause-no : goal.returns-then-is_none-clause-no
returns-then-is_none-clause-no c = λ events is t.
    let told = c.has.ensures ∙ ap (λ (os : List Operation). has os c.in-Begin.op) c.operations.ensures in
    rw c.in-Begin.is
    (begin_again events c.in-Begin.hart c.in-Begin.op c.args.self.now is
    (so_has c.args.self.now.done.operations.items c.in-Begin.op (sym told ∙ not_false c.has.result t)))

pub returns-else-is_none-clause-no : goal.returns-else-is_none-clause-no
returns-else-is_none-clause-no c = λ events is t.
    let some = some_told c.args.self.now.pending c.is_none.result c.is_none.ensures c.if-is_none.false in
    rw c.in-Begin.is (begin_overlapping events c.in-Begin.hart c.in-Begin.op c.args.self.now some.0 is some.1)

pub returns-in-End-clause-yes : goal.returns-in-End-clause-yes
returns-in-End-clause-yes c = λ events fault is t.
    rw c.in-End.is (end_taken events c.in-End.hart c.in-End.op c.args.self.now is (c.is_pending.ensures.0 t) fault)

pub returns-in-End-clause-no : goal.returns-in-End-clause-no
returns-in-End-clause-no c = λ events is t.
    rw c.in-End.is (end_refused events c.in-End.hart c.in-End.op c.args.self.now is (λ same. true≢false (sym (c.is_pending.ensures.1 same) ∙ t)))
