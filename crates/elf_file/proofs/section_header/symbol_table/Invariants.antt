use Rattle.std.proofs.Common.{◌≡◌}
use Rattle.std.specs.Prelude.{None}
use Rattle.elf_file.specs.Functions.{is_symbol_table}
use Rattle.elf_file.specs.Sections.{first_section}
use Rattle.elf_file.proofs.section_header.symbol_table.Given as goal

abbrev pub invariant-loop-number : goal.invariant-loop-number
invariant-loop-number l = first_section is_symbol_table l.file l.number ≡ None
