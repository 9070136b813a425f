use Rattle.report.proofs.redundant.waste.tell_event.Goals as goal

pub returns-in-Json : goal.returns-in-Json
returns-in-Json c = rw c.in-Json.is c.writeln-in-Json.ensures.bytes
