use Rattle.std.proofs.lemmas.Option.{MatchOption-at_none}
use Rattle.routine_judge.proofs.Entering.{entry_other, entry_over, entry_pending, no_entry}
use Rattle.routine_judge.proofs.Faulting.{end_faultless, end_not_pending}
use Rattle.routine_judge.specs.Order.{begun_of, operations_in}
use Rattle.routine_judge.specs.declared.history.overlap.Overlap.TheVariants.{BetweenHarts}
use Rattle.routine_judge.proofs.order.precedence.Precedence.check_end.Goals as goal

pub returns-in-Some-clause-ok : goal.returns-in-Some-clause-ok
returns-in-Some-clause-ok c = λ events h.
    let its = c.in-Some.ensures h.in_order in
    end_faultless BetweenHarts events c.args.hart c.args.op
    (entry_pending events (operations_in c.args.self.now) h (begun_of c.in-Some.entry.now) c.args.hart c.args.op its.0 its.1 c.if-entry-hart.true c.if-not-entry.true)

pub returns-in_default-clause-err : goal.returns-in_default-clause-err
returns-in_default-clause-err c = λ events h.
    let its = c.in-Some.ensures h.in_order in
    end_not_pending BetweenHarts events c.args.hart c.args.op
    (entry_over events (operations_in c.args.self.now) h (begun_of c.in-Some.entry.now) c.args.hart c.args.op its.0 its.1 c.if-not-entry.false)

pub returns-in_default-2-clause-err : goal.returns-in_default-2-clause-err
returns-in_default-2-clause-err c = λ events h.
    let its = c.in-Some.ensures h.in_order in
    end_not_pending BetweenHarts events c.args.hart c.args.op
    (entry_other events (operations_in c.args.self.now) h (begun_of c.in-Some.entry.now) c.args.hart c.args.op its.0 its.1 c.if-entry-hart.false)

pub returns-in_default-3-clause-err : goal.returns-in_default-3-clause-err
returns-in_default-3-clause-err c = λ events h.
    end_not_pending BetweenHarts events c.args.hart c.args.op
    (no_entry events (operations_in c.args.self.now) h c.args.hart c.args.op (MatchOption-at_none _ _ c.in_default.is (c.entry_of.ensures h.in_order)))
