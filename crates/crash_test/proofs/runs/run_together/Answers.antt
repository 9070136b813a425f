-- What the harts of a setup make that run together, or why they don't.
use Rattle.std.proofs.Common.{inr, rules}
use Rattle.machine.specs.RunValues.{setup}
use Rattle.crash_test.proofs.Together.{fails_finish, has_run_together, is_run_of, is_unfinished, left_together, some_seats, stops_together}
use Rattle.crash_test.proofs.runs.run_together.Goals as goal

pub run_harts-requires : goal.run_harts-requires
run_harts-requires g c =
    let seats = some_seats (setup c.args.program c.args.medium c.args.harts c.args.capacity) c.args.steps c.in-Ok.made.1.items c.in-Ok.ensures.seats c.in-Ok.ensures.within in
    (search rules, (search rules, (seats.0, seats.1)))

pub returns-in-Ok-run_harts-clause-ok : goal.returns-in-Ok-run_harts-clause-ok
returns-in-Ok-run_harts-clause-ok g c =
    has_run_together _ _ _ _ _ c.in-Ok.ensures.within c.in-Ok.ensures.bus c.in-Ok.ensures.seats c.in-Ok-run_harts.ensures.ok

pub returns-in-Ok-run_harts-clause-run : goal.returns-in-Ok-run_harts-clause-run
returns-in-Ok-run_harts-clause-run g c =
    is_run_of _ c.args.steps _
    (has_run_together _ _ _ _ _ c.in-Ok.ensures.within c.in-Ok.ensures.bus c.in-Ok.ensures.seats c.in-Ok-run_harts.ensures.ok)
    c.trace.ensures.limit c.left.ensures.lines

pub returns-in-Ok-run_harts-clause-left : goal.returns-in-Ok-run_harts-clause-left
returns-in-Ok-run_harts-clause-left g c =
    left_together (setup c.args.program c.args.medium c.args.harts c.args.capacity) _ _ _ c.in-Ok.ensures.bus c.in-Ok-run_harts.ensures.ok

pub returns-in-Err-Step-clause-err : goal.returns-in-Err-Step-clause-err
returns-in-Err-Step-clause-err g c = inr (
  c.in-Ok.ensures.within,
  stops_together (setup c.args.program c.args.medium c.args.harts c.args.capacity) c.args.steps _ _ c.in-Err-Step.fault
      c.in-Ok.ensures.bus c.in-Ok.ensures.seats (rw c.in-Err-Step.field-0-is at c.in-Err-Step.ensures.err),
)

pub unfinished-requires : goal.unfinished-requires
unfinished-requires g c =
    is_unfinished (setup c.args.program c.args.medium c.args.harts c.args.capacity) c.args.steps _ _ _
    c.in-Ok.ensures.bus c.in-Ok.ensures.seats (rw c.in-Err-Finish.field-0-is at c.in-Err-Finish.ensures.err)

pub returns-clause-err : goal.returns-clause-err
returns-clause-err g c =
    fails_finish (setup c.args.program c.args.medium c.args.harts c.args.capacity) c.args.steps c.in-Err-Finish.fault c.unfinished.result
    c.in-Ok.ensures.within
    (is_unfinished (setup c.args.program c.args.medium c.args.harts c.args.capacity) c.args.steps _ _ _
    c.in-Ok.ensures.bus c.in-Ok.ensures.seats (rw c.in-Err-Finish.field-0-is at c.in-Err-Finish.ensures.err))
    c.unfinished.ensures
