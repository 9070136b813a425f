-- A source is assembled to one object.
use Rattle.std.proofs.Common.{◌≡◌, ℕ, ◌^◌, ◌<◌, List, [], ◌∷◌, ◌++◌, refl, sym, ap, subst, ◌∙◌}
use Rattle.std.specs.Int.{w32, to_le_bytes}
use Rattle.isa_table.specs.declared.instruction.Instr.{Instr}
use Rattle.isa_table.specs.declared.instruction.Instr.TheVariants as instrs
use Rattle.isa_table.specs.declared.instruction.UpperOp.TheVariants.{Auipc}
use Rattle.isa_table.specs.declared.instruction.ImmediateOp.TheVariants.{Addi}
use Rattle.isa_table.specs.Table.{IsCanonical}
use Rattle.program.specs.Sections.{Sections}
use Rattle.assemble.specs.Meanings.{Meaning, LineMeaning, nothing, instruction, pair, branch, jump, address, section, numbers, zeros, align}
use Rattle.assemble.specs.Numbers.{upper_half, lower_half}
use Rattle.assemble.specs.Places.{section_after, place_after}
use Rattle.assemble.specs.SourceLines.{Values, HasWord, HaveWords, HasBytes}
use Rattle.assemble.specs.Assembly.{added, Adds, AreBytesOf, Assembles, lines_back, values_of}

-- no instruction has two canonical words
abbrev pub OneWord : Type 0
OneWord = (i : Instr) (word other : ℕ) → word < 2 ^ 32 → other < 2 ^ 32 → IsCanonical word i → IsCanonical other i → word ≡ other

one_instruction : OneWord → (i j : Instr) (bytes other : List ℕ) → i ≡ j → HasWord i bytes → HasWord j other → bytes ≡ other
one_instruction law i j bytes other same a b =
    let word : a.word ≡ b.word = law j a.word b.word a.short b.short (subst (IsCanonical a.word) same a.canonical) b.canonical in
    a.bytes_is ∙ ap (to_le_bytes w32) word ∙ sym b.bytes_is

one_pair : OneWord → (i j k l : Instr) (bytes other : List ℕ) → i ≡ k → j ≡ l → HaveWords i j bytes → HaveWords k l other → bytes ≡ other
one_pair law i j k l bytes other first second a b =
    let front = one_instruction law i k a.first_bytes b.first_bytes first a.first_is b.first_is in
    let back = one_instruction law j l a.second_bytes b.second_bytes second a.second_is b.second_is in
    a.whole ∙ ap (λ bs. bs ++ a.second_bytes) front ∙ ap (λ bs. b.first_bytes ++ bs) back ∙ sym b.whole

-- a statement has one list of bytes
one_bytes : OneWord → (values : Values) (place : ℕ) (m : Meaning) (bytes other : List ℕ)
    → HasBytes values place m bytes → HasBytes values place m other → bytes ≡ other
one_bytes law values place nothing bytes other a b = a ∙ sym b
one_bytes law values place (instruction instr) bytes other a b = one_instruction law instr instr bytes other refl a b
one_bytes law values place (pair first second) bytes other a b = one_pair law first second first second bytes other refl refl a b
one_bytes law values place (branch op rs1 rs2 label) bytes other a b =
    let far : a.0 ≡ b.0 = cc (a.1, b.1) in
    one_instruction law (instrs.Branch op rs1 rs2 a.0) (instrs.Branch op rs1 rs2 b.0) bytes other (ap (λ z. instrs.Branch op rs1 rs2 z) far) a.2 b.2
one_bytes law values place (jump rd label) bytes other a b =
    let far : a.0 ≡ b.0 = cc (a.1, b.1) in
    one_instruction law (instrs.Jump rd a.0) (instrs.Jump rd b.0) bytes other (ap (λ z. instrs.Jump rd z) far) a.2 b.2
one_bytes law values place (address rd label) bytes other a b =
    let far : a.0 ≡ b.0 = cc (a.1, b.1) in
    one_pair law _ _ _ _ bytes other (ap (λ z. instrs.Upper Auipc rd (upper_half z)) far) (ap (λ z. instrs.Immediate Addi rd rd (lower_half z)) far) a.2 b.2
one_bytes law values place (section s) bytes other a b = a ∙ sym b
one_bytes law values place (numbers width ns) bytes other a b = a ∙ sym b
one_bytes law values place (zeros count) bytes other a b = a ∙ sym b
one_bytes law values place (align boundary) bytes other a b = a ∙ sym b

one_step : OneWord → (values : Values) (earlier : List (List ℕ)) (line : List ℕ) (before after first last : Sections)
    → before ≡ first → Adds values earlier line before after → Adds values earlier line first last → after ≡ last
one_step law values earlier line before after first last same a b =
    let saying : a.is_line.says ≡ b.is_line.says = cc (a.is_line.reads, b.is_line.reads) in
    let has : HasBytes values (place_after earlier) b.is_line.says.meaning a.bytes =
    subst (λ (m : LineMeaning). HasBytes values (place_after earlier) m.meaning a.bytes) saying a.is_line.has_bytes in
    let bytes = one_bytes law values (place_after earlier) b.is_line.says.meaning a.bytes b.bytes has b.is_line.has_bytes in
    a.after_is ∙ ap (λ bs. added (section_after earlier) bs before) bytes ∙ ap (added (section_after earlier) b.bytes) same ∙ sym b.after_is

one_sections : OneWord → (values : Values) (lines : List (List ℕ)) (sections other : Sections) → AreBytesOf values lines sections → AreBytesOf values lines other → sections ≡ other
one_sections law values [] sections other a b = a ∙ sym b
one_sections law values (line ∷ earlier) sections other a b =
    one_step law values earlier line a.0 sections b.0 other (one_sections law values earlier a.0 b.0 a.1 b.1) a.2 b.2

pub one_object : OneWord → (source : List ℕ) (object other : Sections) → Assembles source object → Assembles source other → object ≡ other
one_object law source object other a b = one_sections law (values_of source) (lines_back source) object other a.lines b.lines
