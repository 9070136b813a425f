use Rattle.elf_file.proofs.UnitLaws.{rows_join, units_join, unread_change_none}
use Rattle.elf_file.proofs.lines.laws.units_stand_alone.Goals as goal

pub returns-clause-units : goal.returns-clause-units
returns-clause-units c = units_join

pub returns-clause-rows : goal.returns-clause-rows
returns-clause-rows c = rows_join

pub returns-clause-unread : goal.returns-clause-unread
returns-clause-unread c = unread_change_none
