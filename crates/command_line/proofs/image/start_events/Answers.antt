-- By where the events come from.
use Rattle.command_line.proofs.image.start_events.Goals as goal

pub returns-in-Run-clause-starts : goal.returns-in-Run-clause-starts
returns-in-Run-clause-starts g c = rw c.in-Run.is c.start_run.ensures.starts

pub returns-in-Trace-clause-starts : goal.returns-in-Trace-clause-starts
returns-in-Trace-clause-starts g c = rw c.in-Trace.is c.start_trace.ensures.starts
