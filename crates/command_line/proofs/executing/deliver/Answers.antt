use Rattle.std.proofs.Common.{rules}
use Rattle.command_line.proofs.executing.deliver.Goals as goal

pub returns-in-Print : goal.returns-in-Print
returns-in-Print g c = search rules

pub returns-in-PrintNoted : goal.returns-in-PrintNoted
returns-in-PrintNoted g c = search rules
