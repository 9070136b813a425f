-- A source that is one instruction's text.
use Rattle.std.proofs.Common.{◌≡◌, ℕ, ◌^◌, ◌<◌, ◌≤◌, false, [], ◌∷◌, length, refl, ap, arith, length-append}
use Rattle.std.specs.Prelude.{None, pos}
use Rattle.std.specs.Int.{w32, to_le_bytes}
use Rattle.isa_table.specs.Names.{mnemonic}
use Rattle.isa_table.specs.Ranges.{IsChecked}
use Rattle.isa_table.specs.Table.{IsCanonical}
use Rattle.isa_table.specs.declared.instruction.Instr.{Instr}
use Rattle.isa_table.specs.declared.instruction.Instr.TheVariants.{Upper, Jump, JumpRegister, Branch, Load, Store, Immediate, Shift, Register, Fence, FenceI, Cache, LoadReserved, Atomic, System}
use Rattle.asm_lex.specs.Lines.{lines_of}
use Rattle.assemble.specs.Meanings.{instruction}
use Rattle.assemble.specs.Assembly.{AreBytesOf, Assembles}
use Rattle.assemble.specs.Faults.{is_defined}
use Rattle.assemble.specs.Places.{label_of, said, section_after, place_after, size_of, value_in}
use Rattle.assemble.specs.SourceLines.{Values, IsSourceLine}
use Rattle.decode.specs.Text.{operand_texts, operands_text, text_of}
use Rattle.program.specs.Sections.{Sections}
use Rattle.assemble.proofs.Names.{named}
use Rattle.assemble.proofs.Plain.{IsPlain, ArePlain, plain_text, words_in_line, one_line, register_plain, signed_plain, address_plain, place_plain, distance_plain, set_plain}
use Rattle.assemble.proofs.Shapes.{between_12, between_13, between_21, upper_between, shift_between, reads_back}

operands_plain : (i : Instr) → IsChecked i → ArePlain (operand_texts i)
operands_plain (Upper op rd n) h = (register_plain rd, (signed_plain (pos n) (upper_between n h.in_range).size, tt))
operands_plain (Jump rd z) h = (register_plain rd, (distance_plain z (between_21 z h.in_range).size, tt))
operands_plain (JumpRegister rd rs1 z) h = (register_plain rd, (place_plain z rs1 (between_12 z h.in_range).size, tt))
operands_plain (Branch op rs1 rs2 z) h = (register_plain rs1, (register_plain rs2, (distance_plain z (between_13 z h.in_range).size, tt)))
operands_plain (Load op rd rs1 z) h = (register_plain rd, (place_plain z rs1 (between_12 z h.in_range).size, tt))
operands_plain (Store op rs2 rs1 z) h = (register_plain rs2, (place_plain z rs1 (between_12 z h.in_range).size, tt))
operands_plain (Immediate op rd rs1 z) h = (register_plain rd, (register_plain rs1, (signed_plain z (between_12 z h.in_range).size, tt)))
operands_plain (Shift op rd rs1 n) h = (register_plain rd, (register_plain rs1, (signed_plain (pos n) (shift_between op n h.shift).size, tt)))
operands_plain (Register op rd rs1 rs2) h = (register_plain rd, (register_plain rs1, (register_plain rs2, tt)))
operands_plain (Fence before after) h = (set_plain before, (set_plain after, tt))
operands_plain FenceI h = tt
operands_plain (Cache op rs1) h = (address_plain rs1, tt)
operands_plain (LoadReserved w rd rs1 a r) h = (register_plain rd, (address_plain rs1, tt))
operands_plain (Atomic op w rd rs1 rs2 a r) h = (register_plain rd, (register_plain rs2, (address_plain rs1, tt)))
operands_plain (System op) h = tt

few : (i : Instr) → length (operand_texts i) ≤ 3
few (Jump rd z) = omega arith
few i = omega arith

text_plain : (i : Instr) → IsChecked i → IsPlain 159 (text_of i)
text_plain i h =
    let name : IsPlain 20 (mnemonic i) = record { fits = (named i).short; no_end = words_in_line (mnemonic i) (named i).run } in
    let text = plain_text (mnemonic i) (operand_texts i) name (operands_plain i h) in
    record { fits = omega (arith, text.fits, few i); no_end = text.no_end }

text_there : (i : Instr) → 0 < length (text_of i)
text_there i = rw (length-append (mnemonic i) (operands_text (operand_texts i))) (omega (arith, (named i).there))

-- one line, whose bytes are the word's
one_added : (values : Values) (i : Instr) (word : ℕ) → word < 2 ^ 32 → IsChecked i → IsCanonical word i → AreBytesOf values (text_of i ∷ []) (record { text = to_le_bytes w32 word; static_data = [] })
unfolding section_after size_of place_after value_in
one_added values i word short checked canonical =
    let nothing : Sections = record { text = []; static_data = [] } in
    let line : IsSourceLine (section_after []) (place_after []) values (text_of i) (to_le_bytes w32 word) = record {
      says = record { label = None; meaning = instruction i };
      reads = reads_back i checked;
      stands = refl;
      has_bytes = record { word = word; short = short; checked = checked; canonical = canonical; bytes_is = refl };
    } in
    let unlabelled : is_defined (value_in []) (label_of (text_of i)) ≡ false = ap (λ r. is_defined (value_in []) (said r).label) (reads_back i checked) in
    (nothing, refl, record { bytes = to_le_bytes w32 word; place = refl; is_line = line; once = unlabelled; after_is = refl })

pub assembled : (i : Instr) (word : ℕ) → word < 2 ^ 32 → IsChecked i → IsCanonical word i → Assembles (text_of i) (record { text = to_le_bytes w32 word; static_data = [] })
assembled i word short checked canonical =
    let plain = text_plain i checked in
    let lines : lines_of (text_of i) ≡ text_of i ∷ [] = one_line (text_of i) (text_there i) plain.no_end in
    record {
      source_fits = omega (arith, plain.fits);
      text_fits = omega arith;
      data_fits = omega arith;
      lines = rw lines (one_added (value_in (text_of i ∷ [])) i word short checked canonical);
    }
