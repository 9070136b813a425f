use Rattle.std.proofs.Common.{refl, rules}
use Rattle.report.proofs.told.ToldEvents.of_file.Goals as goal

pub returns-clause-told : goal.returns-clause-told
returns-clause-told c = record {
  placed = (search rules);
  lines = c.in_ok-lines.lines;
  lines_are = refl;
  words = (search rules);
}
