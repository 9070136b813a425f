use Rattle.report.proofs.losses.json.tell_schedule.Goals as goal

pub returns : goal.returns
returns c = rw c.in_ok-items.ensures at c.writeln.ensures.bytes
