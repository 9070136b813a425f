-- By where the events come from.
use Rattle.command_line.proofs.judge.subject_of.Goals as goal

pub returns-in-Run-clause-opens : goal.returns-in-Run-clause-opens
returns-in-Run-clause-opens g c = rw c.in-Run.is c.subject_of_run.ensures.opens

pub returns-in-Trace-clause-opens : goal.returns-in-Trace-clause-opens
returns-in-Trace-clause-opens g c = rw c.in-Trace.is c.subject_of_file.ensures.opens
