use Rattle.std.proofs.Common.{rules}
use Rattle.command_line.proofs.writing.write_schedule_file.Goals as goal

pub returns-in-Some : goal.returns-in-Some
returns-in-Some g c = record { records = rw c.in-Some.is (rw c.as_str.ensures.value at c.write_schedule.ensures) }

pub returns-in-None : goal.returns-in-None
returns-in-None g c = record { records = rw c.in-None.is (search rules) }
