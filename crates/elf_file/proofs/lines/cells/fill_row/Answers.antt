use Rattle.std.proofs.Common.{◌+◌, ◌∙◌, get_or, None}
use Rattle.elf_file.specs.SourceRows.{known_row}
use Rattle.elf_file.proofs.Filling.{same_bytes}
use Rattle.elf_file.proofs.lines.cells.fill_row.Goals as goal

pub returns-clause-cells : goal.returns-clause-cells
returns-clause-cells c = λ at less.
    c.fill.ensures.cells at
    ∙ same_bytes (known_row c.args.row.now) (known_row c.args.next.now) c.bytes_before.result c.bytes_before-2.result c.args.number at
    (0x1_0000 + at) (get_or c.args.cells.now at None) c.if-row.false (c.bytes_before.ensures.before at less)
    (c.bytes_before-2.ensures.before at less)
