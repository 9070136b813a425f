use Rattle.std.proofs.Common.{◌≡◌, ap, sym, ◌∙◌, true, arith, eq-eqb}
use Rattle.std.specs.Prelude.{Some}
use Rattle.elf_file.specs.Functions.{is_symbol_table}
use Rattle.elf_file.specs.Sections.{section_count, section_header_at}
use Rattle.elf_file.specs.declared.section_header.SectionHeader.{SectionHeader}
use Rattle.elf_file.proofs.Tables.{first_found, header_in_file}
use Rattle.elf_file.proofs.section_header.symbol_table.Goals as goal

pub read-header-requires : goal.read-header-requires
read-header-requires c = header_in_file c.args.file.now c.loop-number.number (omega arith)

pub returns-then-header-eq-SYMBOL_TABLE : goal.returns-then-header-eq-SYMBOL_TABLE
returns-then-header-eq-SYMBOL_TABLE c =
    let file = c.args.file.now in
    let n = c.loop-number.number in
    let passes : is_symbol_table (section_header_at file n) ≡ true =
    ap (λ (h : SectionHeader). is_symbol_table h) (sym c.read-header.ensures) ∙ eq-eqb c.read-header.result.kind 2 (omega arith) in
    ap (λ (h : SectionHeader). Some h) c.read-header.ensures
    ∙ sym (first_found is_symbol_table file n (section_count file) (omega arith) c.loop-number.invariant passes)
