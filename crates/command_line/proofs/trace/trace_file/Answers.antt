-- By where the events come from.
use Rattle.command_line.proofs.trace.trace_file.Goals as goal

pub returns-in-Run : goal.returns-in-Run
returns-in-Run g c = rw c.in-Run.is c.trace_run.ensures

pub returns-in-Trace : goal.returns-in-Trace
returns-in-Trace g c = rw c.in-Trace.is c.trace_back.ensures
