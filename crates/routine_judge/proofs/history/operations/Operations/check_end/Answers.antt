use Rattle.std.proofs.Common.{ℕ, Some, ap, sym, ◌∙◌}
use Rattle.routine_judge.proofs.Faulting.{end_faultless, end_not_pending}
use Rattle.routine_judge.proofs.Marked.{no_number, number_of}
use Rattle.routine_judge.proofs.history.operations.Operations.check_end.Goals as goal

pub returns-in-Some-clause-ok : goal.returns-in-Some-clause-ok
returns-in-Some-clause-ok c = λ before a overlap.
    let got = sym c.in-Some.ensures.value ∙ ap (λ (n : ℕ). Some n) c.if-beginner-hart.true in
    end_faultless overlap before c.args.hart c.args.op ((a.each_pending c.args.op c.args.hart).0 got)

pub returns-in_default-clause-err : goal.returns-in_default-clause-err
returns-in_default-clause-err c = λ before a overlap.
    end_not_pending overlap before c.args.hart c.args.op (λ p.
    let got = (a.each_pending c.args.op c.args.hart).1 p in
    c.if-beginner-hart.false (number_of c.in-Some.beginner.now c.args.hart (c.in-Some.ensures.value ∙ got)))

pub returns-in_default-2-clause-err : goal.returns-in_default-2-clause-err
returns-in_default-2-clause-err c = λ before a overlap.
    end_not_pending overlap before c.args.hart c.args.op (λ p.
    let got = (a.each_pending c.args.op c.args.hart).1 p in
    let none = rw c.in_default.is at c.get.ensures.value in
    no_number c.args.hart (none ∙ got))
