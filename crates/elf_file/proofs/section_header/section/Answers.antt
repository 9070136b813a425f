use Rattle.std.proofs.Common.{◌≡◌, ℕ, List, [], ap, sym, ◌∙◌, true, arith}
use Rattle.std.specs.Option.{option_map_or}
use Rattle.std.specs.Prelude.{Option}
use Rattle.elf_file.specs.Sections.{first_section, is_named, section_bytes, section_count, section_header_at, section_names}
use Rattle.elf_file.specs.declared.section_header.SectionHeader.{SectionHeader}
use Rattle.elf_file.proofs.Tables.{first_found, header_in_file, none_in_short}
use Rattle.elf_file.proofs.section_header.section.Goals as goal

pub returns-then-file-lt-FILE_HEADER_SIZE : goal.returns-then-file-lt-FILE_HEADER_SIZE
returns-then-file-lt-FILE_HEADER_SIZE c =
    let file = c.args.file.now in
    ap (λ (n : ℕ). option_map_or (section_bytes file) (first_section (is_named (section_names file) c.args.name.now) file n) []) (sym (none_in_short file (omega arith)))

pub read-header-requires : goal.read-header-requires
read-header-requires c = header_in_file c.args.file.now c.loop-number.number (omega arith)

pub returns-then-is_named : goal.returns-then-is_named
returns-then-is_named c =
    let file = c.args.file.now in
    let name = c.args.name.now in
    let names = c.section_numbered-names.result.now in
    let n = c.loop-number.number in
    let passes : is_named names name (section_header_at file n) ≡ true =
    ap (λ (h : SectionHeader). is_named names name h) (sym c.read-header.ensures) ∙ sym c.is_named.ensures ∙ c.if-is_named.true in
    let found = first_found (is_named names name) file n (section_count file) (omega arith) c.loop-number.invariant passes in
    let names_is : names ≡ section_names file = cc in
    c.bytes.ensures
    ∙ ap (λ (h : SectionHeader). section_bytes file h) c.read-header.ensures
    ∙ ap (λ (o : Option SectionHeader). option_map_or (section_bytes file) o []) (sym found)
    ∙ ap (λ (some : List ℕ). option_map_or (section_bytes file) (first_section (is_named some name) file (section_count file)) []) names_is
