use Rattle.std.proofs.Common.{◌≡◌}
use Rattle.std.specs.Prelude.{None}
use Rattle.elf_file.specs.Sections.{first_section, is_named}
use Rattle.elf_file.proofs.section_header.section.Given as goal

abbrev pub invariant-loop-number : goal.invariant-loop-number
invariant-loop-number l = first_section (is_named l.names l.name) l.file l.number ≡ None
