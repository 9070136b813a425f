use Rattle.routine_judge.proofs.order.so_far.OrderSoFar.take_in.Goals as goal

pub returns-then-not-is_mark-clause-ordered : goal.returns-then-not-is_mark-clause-ordered
returns-then-not-is_mark-clause-ordered c = λ events ordered none.
    c.precedences_stand.ensures.kept events c.args.event c.args.self.now.precedence
    (c.is_mark.ensures.begins c.if-not-is_mark.true) (c.is_mark.ensures.ends c.if-not-is_mark.true) ordered

pub returns-in-Ok-clause-ordered : goal.returns-in-Ok-clause-ordered
returns-in-Ok-clause-ordered c =
    let after = rw c.in-Ok.is at c.in_ok-next.ensures.ok in
    λ events ordered none. after events ordered

pub returns-in-Err-clause-ordered : goal.returns-in-Err-clause-ordered
returns-in-Err-clause-ordered c =
    let wrong = rw c.in-Err.is at c.in_ok-next.ensures.err in
    λ events ordered none. absurd (none c.in-Err.field-0 (wrong events ordered).has)
