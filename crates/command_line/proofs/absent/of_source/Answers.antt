-- By where the events come from.
use Rattle.command_line.proofs.absent.of_source.Goals as goal

pub returns-in-Run : goal.returns-in-Run
returns-in-Run g c = rw c.in-Run.is c.of_run.ensures

pub returns-in-Trace : goal.returns-in-Trace
returns-in-Trace g c = rw c.in-Trace.is c.of_trace.ensures
