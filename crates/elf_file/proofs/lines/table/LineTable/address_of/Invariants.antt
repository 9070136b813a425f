use Rattle.elf_file.specs.Lines.{HasNoPc}
use Rattle.elf_file.proofs.lines.table.LineTable.address_of.Given as goal

abbrev pub invariant-loop-at : goal.invariant-loop-at
invariant-loop-at l = HasNoPc l.self.rows l.name l.line l.at
