use Rattle.std.proofs.Common.{◌≡◌, ◌-◌}
use Rattle.elf_file.specs.Forms.{format_at}
use Rattle.elf_file.specs.Repeated.{repeated}
use Rattle.elf_file.proofs.Repeating.{with_rest}
use Rattle.elf_file.proofs.lines.forms.formats_in.Given as goal

abbrev pub invariant-loop-number : goal.invariant-loop-number
invariant-loop-number l = with_rest l.formats.items (repeated format_at (l.count - l._number) l.rest) ≡ repeated format_at l.count l.bytes
