use Rattle.std.proofs.lemmas.Result.{IfErr-weaker, IfOk-weaker}
use Rattle.bus.proofs.Refusing.{start_for_memory}
use Rattle.bus.proofs.locked.Core.new.Goals as goal

pub returns-clause-program : goal.returns-clause-program
returns-clause-program c = IfOk-weaker c.made.result _ _ (λ made are. are.new.program_is) c.made.ensures.made

pub returns-clause-start : goal.returns-clause-start
returns-clause-start c = IfOk-weaker c.made.result _ _ (λ made are. are.new.start_is) c.made.ensures.made

pub returns-clause-harts : goal.returns-clause-harts
returns-clause-harts c = IfOk-weaker c.made.result _ _ (λ made are. are.new.harts_are) c.made.ensures.made

pub returns-clause-capacity : goal.returns-clause-capacity
returns-clause-capacity c = IfOk-weaker c.made.result _ _ (λ made are. are.new.capacity_is) c.made.ensures.made

pub returns-clause-history : goal.returns-clause-history
returns-clause-history c = IfOk-weaker c.made.result _ _ (λ made are. are.new.none) c.made.ensures.made

pub returns-clause-seats : goal.returns-clause-seats
returns-clause-seats c = IfOk-weaker c.made.result _ _ (λ made are. are.at_start) c.made.ensures.made

pub returns-clause-agree : goal.returns-clause-agree
returns-clause-agree c = IfOk-weaker c.made.result _ _ (λ made are. are.agree) c.made.ensures.made

pub returns-clause-refused : goal.returns-clause-refused
returns-clause-refused c =
    IfErr-weaker c.made.result _ _ (λ fault is. start_for_memory c.args.harts c.args.capacity c.args.budget fault c.in_ok-check_start.ensures.within is)
    c.made.ensures.err
