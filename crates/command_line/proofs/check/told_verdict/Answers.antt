-- What the reporter heard is what standard error got.
use Rattle.command_line.proofs.OnTheWay.{same_stream, told_lines}
use Rattle.command_line.proofs.check.told_verdict.Goals as goal

pub returns-in_ok-check_program-in-Run-clause-same : goal.returns-in_ok-check_program-in-Run-clause-same
returns-in_ok-check_program-in-Run-clause-same g c = same_stream _ _ _ _ _ _ _ _ _ _ c.check_program.ensures.told

pub returns-in_ok-check_program-in-Run-clause-told : goal.returns-in_ok-check_program-in-Run-clause-told
returns-in_ok-check_program-in-Run-clause-told g c =
    rw c.in-Run.is (told_lines _ _ _ _ _ _ _ _ _ _ (rw (c.work-work.ensures.first, c.work-work.ensures.last, c.work-work.ensures.goes_on) at c.check_program.ensures.told))

pub returns-in_ok-check_events-in-Trace-clause-same : goal.returns-in_ok-check_events-in-Trace-clause-same
returns-in_ok-check_events-in-Trace-clause-same g c = same_stream _ _ _ _ _ _ _ _ _ _ c.check_events.ensures.told

pub returns-in_ok-check_events-in-Trace-clause-told : goal.returns-in_ok-check_events-in-Trace-clause-told
returns-in_ok-check_events-in-Trace-clause-told g c =
    rw c.in-Trace.is (told_lines _ _ _ _ _ _ _ _ _ _ (rw (c.work-work.ensures.first, c.work-work.ensures.last, c.work-work.ensures.goes_on) at c.check_events.ensures.told))

pub returns-in_err-check_program-in-Run-clause-same : goal.returns-in_err-check_program-in-Run-clause-same
returns-in_err-check_program-in-Run-clause-same g c = same_stream _ _ _ _ _ _ _ _ _ _ c.check_program.ensures.told

pub returns-in_err-check_program-in-Run-clause-told : goal.returns-in_err-check_program-in-Run-clause-told
returns-in_err-check_program-in-Run-clause-told g c =
    rw c.in-Run.is (told_lines _ _ _ _ _ _ _ _ _ _ (rw (c.work-work.ensures.first, c.work-work.ensures.last, c.work-work.ensures.goes_on) at c.check_program.ensures.told))

pub returns-in_err-check_events-in-Trace-clause-same : goal.returns-in_err-check_events-in-Trace-clause-same
returns-in_err-check_events-in-Trace-clause-same g c = same_stream _ _ _ _ _ _ _ _ _ _ c.check_events.ensures.told

pub returns-in_err-check_events-in-Trace-clause-told : goal.returns-in_err-check_events-in-Trace-clause-told
returns-in_err-check_events-in-Trace-clause-told g c =
    rw c.in-Trace.is (told_lines _ _ _ _ _ _ _ _ _ _ (rw (c.work-work.ensures.first, c.work-work.ensures.last, c.work-work.ensures.goes_on) at c.check_events.ensures.told))
