use Rattle.std.proofs.Common.{◌≡◌, None, drop, option_map}
use Rattle.elf_file.specs.Forms.{path_in}
use Rattle.elf_file.specs.Texts.{known_path, text_from}
use Rattle.elf_file.proofs.lines.forms.entry_at.Given as goal

abbrev pub invariant-loop-format : goal.invariant-loop-format
invariant-loop-format l =
    path_in (drop l.format-index l.formats) (text_from l.strings) (option_map known_path l.path) l.rest ≡ path_in l.formats (text_from l.strings) None l.bytes
