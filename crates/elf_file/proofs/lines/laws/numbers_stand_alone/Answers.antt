use Rattle.elf_file.proofs.NumberLaws.{numbers_alone}
use Rattle.elf_file.proofs.lines.laws.numbers_stand_alone.Goals as goal

pub returns : goal.returns
returns c = numbers_alone
