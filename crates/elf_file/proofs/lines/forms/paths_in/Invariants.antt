use Rattle.std.proofs.Common.{◌≡◌, ◌-◌, map}
use Rattle.elf_file.specs.Forms.{entry_at}
use Rattle.elf_file.specs.Repeated.{repeated}
use Rattle.elf_file.specs.Texts.{known_path, text_from}
use Rattle.elf_file.proofs.Repeating.{with_rest}
use Rattle.elf_file.proofs.lines.forms.paths_in.Given as goal

abbrev pub invariant-loop-number : goal.invariant-loop-number
invariant-loop-number l = with_rest (map known_path l.paths.items) (repeated (entry_at l.formats (text_from l.strings)) (l.count - l._number) l.rest)
    ≡ repeated (entry_at l.formats (text_from l.strings)) l.count l.bytes
