use Rattle.elf_file.proofs.RowLaws.{lines_of_rows}
use Rattle.elf_file.proofs.lines.laws.lines_are_of_rows.Goals as goal

pub returns : goal.returns
returns c = lines_of_rows
