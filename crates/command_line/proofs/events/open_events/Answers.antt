-- By where the events come from.
use Rattle.command_line.proofs.events.open_events.Goals as goal

pub returns-in-Run-clause-opens : goal.returns-in-Run-clause-opens
returns-in-Run-clause-opens g c = rw c.in-Run.is c.open_scheduled.ensures.opens

pub returns-in-Trace-clause-opens : goal.returns-in-Trace-clause-opens
returns-in-Trace-clause-opens g c = rw c.in-Trace.is c.open_trace.ensures.opens
