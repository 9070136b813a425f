use Rattle.std.proofs.Common.{◌≡◌}
use Rattle.elf_file.specs.Segments.{AreRightHeaders, end_before}
use Rattle.elf_file.proofs.program_header.check_table.Given as goal

abbrev pub invariant-loop-number : goal.invariant-loop-number
invariant-loop-number l = (l.end ≡ end_before l.file l.number) × AreRightHeaders l.file l.number
