-- By where the events come from.
use Rattle.command_line.proofs.judged_events.open_judged.Goals as goal

pub returns-in-Run-clause-opens : goal.returns-in-Run-clause-opens
returns-in-Run-clause-opens g c = rw c.in-Run.is c.open_judged_run.ensures.opens

pub returns-in-Trace-clause-opens : goal.returns-in-Trace-clause-opens
returns-in-Trace-clause-opens g c = rw c.in-Trace.is c.open_judged_trace.ensures.opens
