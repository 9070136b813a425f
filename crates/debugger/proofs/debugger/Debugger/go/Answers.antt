use Rattle.debugger.proofs.Ends.{first_refused, first_stops, goes_to_end, later_refused, later_stops, nothing_left}
use Rattle.debugger.proofs.debugger.Debugger.go.Goals as goal

pub returns-in_default-clause-ok : goal.returns-in_default-clause-ok
returns-in_default-clause-ok c =
    rw c.end_of.ensures (nothing_left c.args.self.now c.args.schedule.now c.args.from c.in_default.ensures.next)

pub returns-in-Err-clause-ok : goal.returns-in-Err-clause-ok
returns-in-Err-clause-ok c =
    rw c.ended.ensures
    (first_stops c.args.self.now c.args.schedule.now c.args.from c.in-Some.at c.in-Some.first c.in-Some.ensures.next.0 c.in-Some.ensures.next.1
    c.make.new.self c.in-Err.halt c.in-Err.ensures.err)

pub returns-in-Err-clause-err : goal.returns-in-Err-clause-err
returns-in-Err-clause-err c =
    rw c.ended.ensures
    (first_refused c.args.self.now c.args.schedule.now c.args.from c.in-Some.at c.in-Some.first c.in-Some.ensures.next.0 c.in-Some.ensures.next.1
    c.make.new.self c.in-Err.halt c.in-Err.ensures.err)

pub returns-in-Ok-clause-ok : goal.returns-in-Ok-clause-ok
returns-in-Ok-clause-ok c =
    rw c.end_of-in-Ok.ensures
    (goes_to_end c.args.self.now c.args.schedule.now c.args.from c.in-Some.at c.in-Some.first c.in-Some.ensures.next.0 c.in-Some.ensures.next.1
    c.make.new.self c.in_default-make.ensures.ok c.walk.new.stepper (rw c.behind.ensures at c.in-Ok.ensures.ok))

pub returns-in-Err-walk-clause-ok : goal.returns-in-Err-walk-clause-ok
returns-in-Err-walk-clause-ok c =
    rw c.ended-in-Err-walk.ensures
    (later_stops c.args.self.now c.args.schedule.now c.args.from c.in-Some.at c.in-Some.first c.in-Some.ensures.next.0 c.in-Some.ensures.next.1
    c.make.new.self c.in_default-make.ensures.ok c.walk.new.stepper c.in-Err-walk.halted.place c.in-Err-walk.halted.halt
    (rw c.behind.ensures at c.in-Err-walk.ensures.err))

pub returns-in-Err-walk-clause-err : goal.returns-in-Err-walk-clause-err
returns-in-Err-walk-clause-err c =
    rw c.ended-in-Err-walk.ensures
    (later_refused c.args.self.now c.args.schedule.now c.args.from c.in-Some.at c.in-Some.first c.in-Some.ensures.next.0 c.in-Some.ensures.next.1
    c.make.new.self c.in_default-make.ensures.ok c.walk.new.stepper c.in-Err-walk.halted.place c.in-Err-walk.halted.halt
    (rw c.behind.ensures at c.in-Err-walk.ensures.err))
