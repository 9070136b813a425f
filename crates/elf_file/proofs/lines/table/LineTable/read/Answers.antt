use Rattle.std.proofs.Common.{◌∙◌, ℕ, List, ap}
use Rattle.std.specs.Prelude.{codes}
use Rattle.elf_file.specs.Forms.{TextsByPlace}
use Rattle.elf_file.specs.LineTables.{table_of}
use Rattle.elf_file.specs.Sections.{section_of, text_at}
use Rattle.elf_file.proofs.lines.table.LineTable.read.Goals as goal

pub returns : goal.returns
returns c =
    c.in_ok-rows.ensures
    ∙ ap (λ (texts : TextsByPlace). table_of texts c.section-table.result.now)
    (c.through_last_zero-strings.ensures ∙ ap (λ (strings : List ℕ). text_at strings) c.section.ensures)
    ∙ ap (λ (table : List ℕ). table_of (text_at (section_of c.args.file.now (codes ".debug_line_str"))) table) c.section-table.ensures
