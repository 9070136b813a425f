-- The second pass, from one line to the next.
use Rattle.std.proofs.Common.{◌≡◌, ℕ, ◌+◌, ◌%◌, ◌^◌, ◌<◌, ◌≤◌, Bool, true, false, List, [], ◌∷◌, length, refl, sym, ap, subst, ◌∙◌, arith, length-append, ltb-false}
use Rattle.std.specs.Prelude.{Option, Some, None, Result, Ok, Err, nat_lt, IfSome, if◌then◌else◌}
use mathlib.Core.List.{reverse_aux}
use Rattle.std.specs.Option.{option_or}
use Rattle.asm_lex.specs.Lines.{lines_of}
use Rattle.program.specs.Sections.{Sections, AreWithinLimits}
use Rattle.program.specs.declared.TheConstants.{TEXT_LIMIT, DATA_LIMIT}
use Rattle.assemble.specs.declared.asm_line.fault.AsmCode.{AsmCode}
use Rattle.assemble.specs.declared.asm_line.fault.AsmCode.TheVariants.{LabelTwice, WrongSection, TooLarge}
use Rattle.asm_lex.specs.declared.asm_names.kinds.NumberWidth.TheVariants.{Byte, Half, Word, Doubleword}
use Rattle.asm_lex.specs.declared.asm_names.kinds.Section.{Section}
use Rattle.asm_lex.specs.declared.asm_names.kinds.Section.TheVariants.{Text, Data}
use Rattle.assemble.specs.Lines.{line_of}
use Rattle.assemble.specs.Meanings.{Meaning, LineMeaning, nothing, instruction, pair, branch, jump, address, section, numbers, zeros, align}
use Rattle.assemble.specs.declared.emission.Emission.{Emission}
use Rattle.assemble.specs.Places.{said, label_of, meaning_in, base_of, limit_of, size_at, share, defines, section_from, section_after, size_of, place_after, value_in}
use Rattle.assemble.specs.SourceLines.{Values, HasBytes, stands_in}
use Rattle.assemble.specs.Faults.{Codes, is_defined, passes_limit, code_of_said, code_of_length, code_of_label, early_code, late_code, NoneHas, IsFirst}
use Rattle.assemble.specs.Assembly.{bytes_in, added, Adds, AreBytesOf, lines_back}
use Rattle.assemble.specs.Appending.{AreNear}
use Rattle.assemble.specs.Passes.{IsNext}
use Rattle.assemble.specs.Emission.{sections_in, HasRoom, Emits, IsEmitted, Emitting}
use Rattle.assemble.proofs.First.{next_start, next_step, next_end, next_first}
use Rattle.assemble.proofs.Placed.{says, section_next, size_next}
use Rattle.assemble.proofs.ByteSteps.{has_size, no_late}

-- a line without an early code
pub record IsSound (earlier : List (List ℕ)) (line : List ℕ) : Type 0 where
  pub says : LineMeaning
  pub reads : line_of line ≡ Ok says
  pub once : is_defined (value_in earlier) says.label ≡ false
  pub stands : stands_in (section_after earlier) says.meaning ≡ true
  pub fits : passes_limit earlier says.meaning ≡ false

tests : (d s p : Bool) (rest : Option AsmCode)
    → option_or (if d then Some LabelTwice else (if s then (if p then Some TooLarge else None) else Some WrongSection)) rest ≡ None
    → (d ≡ false) × (s ≡ true) × (p ≡ false)
tests true s p rest e = cc
tests false false p rest e = cc
tests false true true rest e = cc
tests false true false rest e = (refl, refl, refl)

sound_if : (r : Result LineMeaning AsmCode) (size : ℕ) (earlier : List (List ℕ)) (line : List ℕ) → line_of line ≡ r
    → option_or (code_of_said earlier r) (code_of_length size earlier) ≡ None → IsSound earlier line
sound_if (Err code) size earlier line reads e = cc
sound_if (Ok m) size earlier line reads e =
    let t = tests (is_defined (value_in earlier) m.label) (stands_in (section_after earlier) m.meaning) (passes_limit earlier m.meaning) (code_of_length size earlier) e in
    record { says = m; reads = reads; once = t.0; stands = t.1; fits = t.2 }

pub sound : (size : ℕ) (earlier : List (List ℕ)) (line : List ℕ) → early_code size earlier line ≡ None → IsSound earlier line
unfolding early_code
sound size earlier line e = sound_if (line_of line) size earlier line refl e

-- the sizes of sections without early codes
pub record AreSized (earlier : List (List ℕ)) : Type 0 where
  pub text_fits : size_of Text earlier ≤ TEXT_LIMIT
  pub data_fits : size_of Data earlier ≤ DATA_LIMIT
  pub words : size_of Text earlier % 4 ≡ 0

text_words : (place : ℕ) (m : Meaning) → stands_in Text m ≡ true → size_at place m % 4 ≡ 0
text_words place nothing e = refl
text_words place (instruction instr) e = refl
text_words place (pair first second) e = refl
text_words place (branch op rs1 rs2 label) e = refl
text_words place (jump rd label) e = refl
text_words place (address rd label) e = refl
text_words place (section s) e = refl
text_words place (numbers Byte ns) e = cc
text_words place (numbers Half ns) e = cc
text_words place (numbers Word ns) e = omega arith
text_words place (numbers Doubleword ns) e = cc
text_words place (zeros count) e = cc
text_words place (align boundary) e = cc

-- the place of the next line, by its section
place_in : (s : Section) (earlier : List (List ℕ)) → section_after earlier ≡ s → place_after earlier ≡ base_of s + size_of s earlier
unfolding place_after
place_in s earlier e = ap (λ x. base_of x + size_of x earlier) e

sized_in : (s : Section) (earlier : List (List ℕ)) (line : List ℕ) (m : Meaning) → section_after earlier ≡ s → meaning_in line ≡ m
    → stands_in s m ≡ true → nat_lt (limit_of s) (size_of s earlier + size_at (base_of s + size_of s earlier) m) ≡ false
    → AreSized earlier → AreSized (line ∷ earlier)
sized_in Text earlier line m here same stands fits before =
    let more : size_of Text (line ∷ earlier) ≡ size_of Text earlier + size_at (base_of Text + size_of Text earlier) m = rw (size_next Text line earlier, here, same) refl in
    let others : size_of Data (line ∷ earlier) ≡ size_of Data earlier + 0 = rw (size_next Data line earlier, here) refl in
    let below : size_of Text earlier + size_at (base_of Text + size_of Text earlier) m ≤ TEXT_LIMIT = ltb-false _ _ fits in
    let whole = text_words (base_of Text + size_of Text earlier) m stands in
    let words_before = before.words in
    let data_before = before.data_fits in
    record { text_fits = rw more below; data_fits = rw others (omega arith); words = rw more (omega arith) }
sized_in Data earlier line m here same stands fits before =
    let more : size_of Data (line ∷ earlier) ≡ size_of Data earlier + size_at (base_of Data + size_of Data earlier) m = rw (size_next Data line earlier, here, same) refl in
    let others : size_of Text (line ∷ earlier) ≡ size_of Text earlier + 0 = rw (size_next Text line earlier, here) refl in
    let below : size_of Data earlier + size_at (base_of Data + size_of Data earlier) m ≤ DATA_LIMIT = ltb-false _ _ fits in
    let words_before = before.words in
    let text_before = before.text_fits in
    record { data_fits = rw more below; text_fits = rw others (omega arith); words = rw others (omega arith) }

sized_next : (earlier : List (List ℕ)) (line : List ℕ) → IsSound earlier line → AreSized earlier → AreSized (line ∷ earlier)
sized_next earlier line s before =
    let here = section_after earlier in
    let fits : nat_lt (limit_of here) (size_of here earlier + size_at (base_of here + size_of here earlier) s.says.meaning) ≡ false =
    ap (λ place. nat_lt (limit_of here) (size_of here earlier + size_at place s.says.meaning)) (sym (place_in here earlier refl)) ∙ s.fits in
    sized_in here earlier line s.says.meaning refl (ap (λ (x : LineMeaning). x.meaning) (says line s.says s.reads)) s.stands fits before

pub sized : (size : ℕ) (earlier : List (List ℕ)) → NoneHas (early_code size) earlier → AreSized earlier
unfolding size_of
sized size [] none = record { text_fits = omega arith; data_fits = omega arith; words = refl }
sized size (line ∷ earlier) none = sized_next earlier line (sound size earlier line none.0) (sized size earlier none.1)

-- the values of labels lie in the regions
place_near : (s : Section) (earlier : List (List ℕ)) → section_after earlier ≡ s → AreSized earlier → place_after earlier ≤ 2 ^ 21
place_near Text earlier here sizes = let fits = sizes.text_fits in rw (place_in Text earlier here) (omega arith)
place_near Data earlier here sizes = let fits = sizes.data_fits in rw (place_in Data earlier here) (omega arith)

near_if : (t : Bool) (place : ℕ) (rest : Option ℕ) → place ≤ 2 ^ 21 → IfSome rest (λ p. p ≤ 2 ^ 21) → IfSome (if t then Some place else rest) (λ p. p ≤ 2 ^ 21)
near_if true place rest here later = here
near_if false place rest here later = later

pub values_near : (size : ℕ) (earlier : List (List ℕ)) → NoneHas (early_code size) earlier → AreNear (value_in earlier)
unfolding value_in
values_near size [] none = λ text. tt
values_near size (line ∷ earlier) none = λ text.
    near_if (defines (label_of line) text) (place_after earlier) (value_in earlier text)
    (place_near (section_after earlier) earlier refl (sized size earlier none.1)) (values_near size earlier none.1 text)

-- the lines before a line have no code where none has
pub none_before : (code_of : Codes) (later earlier : List (List ℕ)) → NoneHas code_of (reverse_aux later earlier) → NoneHas code_of earlier
none_before code_of [] earlier none = none
none_before code_of (line ∷ later) earlier none = (none_before code_of later (line ∷ earlier) none).1

-- what one line adds
bytes_size : (s : Section) (values : Values) (m : Meaning) (place : ℕ) (bytes : List ℕ) (e n : Emission)
    → HasBytes values place m bytes → sections_in n ≡ added s bytes (sections_in e)
    → (length n.text.items ≡ length e.text.items + share Text s (size_at place m)) × (length n.static_data.items ≡ length e.static_data.items + share Data s (size_at place m))
bytes_size Text values m place bytes e n has is =
    let size = has_size values place m bytes has in (
      ap (λ (x : Sections). length x.text) is ∙ length-append e.text.items bytes ∙ ap (λ k. length e.text.items + k) size,
      ap (λ (x : Sections). length x.static_data) is ∙ grind arith,
    )
bytes_size Data values m place bytes e n has is =
    let size = has_size values place m bytes has in (
      ap (λ (x : Sections). length x.text) is ∙ grind arith,
      ap (λ (x : Sections). length x.static_data) is ∙ length-append e.static_data.items bytes ∙ ap (λ k. length e.static_data.items + k) size,
    )

-- the next line stands where its section's bytes end
size_emitted : (s : Section) (values : Values) (earlier : List (List ℕ)) (e : Emission) → IsEmitted values earlier e → length (bytes_in s (sections_in e)) ≡ size_of s earlier
size_emitted Text values earlier e emitted = emitted.text_is
size_emitted Data values earlier e emitted = emitted.data_is

place_emitted : (values : Values) (earlier : List (List ℕ)) (e : Emission) → IsEmitted values earlier e
    → base_of e.section + length (bytes_in e.section (sections_in e)) ≡ place_after earlier
unfolding place_after
place_emitted values earlier e emitted =
    ap (λ s. base_of s + length (bytes_in s (sections_in e))) emitted.section_is
    ∙ ap (λ n. base_of (section_after earlier) + n) (size_emitted (section_after earlier) values earlier e emitted)

share_at : (s t : Section) (earlier : List (List ℕ)) (m : Meaning) → section_after earlier ≡ t
    → share s t (size_at (place_after earlier) m) ≡ share s t (size_at (base_of s + size_of s earlier) m)
share_at Text Text earlier m here = ap (λ place. size_at place m) (place_in Text earlier here)
share_at Data Data earlier m here = ap (λ place. size_at place m) (place_in Data earlier here)
share_at Text Data earlier m here = refl
share_at Data Text earlier m here = refl

size_grown : (s : Section) (earlier : List (List ℕ)) (line : List ℕ) (m : Meaning) (old new : ℕ) → meaning_in line ≡ m → old ≡ size_of s earlier
    → new ≡ old + share s (section_after earlier) (size_at (place_after earlier) m) → new ≡ size_of s (line ∷ earlier)
size_grown s earlier line m old new same was grown =
    grown ∙ ap (λ n. n + share s (section_after earlier) (size_at (place_after earlier) m)) was
    ∙ ap (λ n. size_of s earlier + n) (share_at s (section_after earlier) earlier m refl)
    ∙ ap (λ (x : Meaning). size_of s earlier + share s (section_after earlier) (size_at (base_of s + size_of s earlier) x)) (sym same)
    ∙ sym (size_next s line earlier)

-- the same with the section of the lines before
pub record EmitsAfter (values : Values) (earlier : List (List ℕ)) (m : Meaning) (old new : Emission) : Type 0 where
  pub bytes : List ℕ
  pub has_bytes : HasBytes values (place_after earlier) m bytes
  pub section_is : new.section ≡ section_from (section_after earlier) m
  pub sections_are : sections_in new ≡ added (section_after earlier) bytes (sections_in old)

emits_after : (values : Values) (earlier : List (List ℕ)) (m : Meaning) (e n : Emission) → Emits values m e n → IsEmitted values earlier e → EmitsAfter values earlier m e n
emits_after values earlier m e n emits emitted = record {
  bytes = emits.bytes;
  has_bytes = subst (λ place. HasBytes values place m emits.bytes) (place_emitted values earlier e emitted) emits.has_bytes;
  section_is = emits.section_is ∙ ap (λ s. section_from s m) emitted.section_is;
  sections_are = emits.sections_are ∙ ap (λ s. added s emits.bytes (sections_in e)) emitted.section_is;
}

adds_line : (values : Values) (earlier : List (List ℕ)) (line : List ℕ) (m : LineMeaning) (e n : Emission) → line_of line ≡ Ok m → IsSound earlier line
    → EmitsAfter values earlier m.meaning e n → IsEmitted values earlier e → Adds values earlier line (sections_in e) (sections_in n)
unfolding place_after
adds_line values earlier line m e n reads s emits emitted =
    let same : s.says ≡ m = cc (s.reads, reads) in
    record {
      bytes = emits.bytes;
      place = ap (λ k. base_of (section_after earlier) + k) (sym (size_emitted (section_after earlier) values earlier e emitted));
      is_line = record {
        says = m;
        reads = reads;
        stands = subst (λ (x : LineMeaning). stands_in (section_after earlier) x.meaning ≡ true) same s.stands;
        has_bytes = emits.has_bytes;
      };
      once = ap (λ (r : Result LineMeaning AsmCode). is_defined (value_in earlier) (said r).label) s.reads ∙ s.once;
      after_is = emits.sections_are;
    }

pub emitted_next : (values : Values) (size : ℕ) (earlier : List (List ℕ)) (line : List ℕ) (m : LineMeaning) (e n : Emission)
    → line_of line ≡ Ok m → Emits values m.meaning e n → IsEmitted values earlier e → early_code size earlier line ≡ None → IsEmitted values (line ∷ earlier) n
emitted_next values size earlier line m e n reads emits emitted none =
    let after = emits_after values earlier m.meaning e n emits emitted in
    let same : meaning_in line ≡ m.meaning = ap (λ (x : LineMeaning). x.meaning) (says line m reads) in
    let sizes = bytes_size (section_after earlier) values m.meaning (place_after earlier) after.bytes e n after.has_bytes after.sections_are in
    record {
      section_is = after.section_is ∙ ap (λ (x : Meaning). section_from (section_after earlier) x) (sym same) ∙ sym (section_next line earlier);
      text_is = size_grown Text earlier line m.meaning (length e.text.items) (length n.text.items) same emitted.text_is sizes.0;
      data_is = size_grown Data earlier line m.meaning (length e.static_data.items) (length n.static_data.items) same emitted.data_is sizes.1;
      bytes_are = (sections_in e, emitted.bytes_are, adds_line values earlier line m e n reads (sound size earlier line none) after emitted);
    }

-- the late code of a line is that of its statement
late_is : (values : Values) (earlier : List (List ℕ)) (line : List ℕ) (m : LineMeaning) (e : Emission) → line_of line ≡ Ok m → IsEmitted values earlier e
    → late_code values earlier line ≡ code_of_label values (base_of e.section + length (bytes_in e.section (sections_in e))) m.meaning
unfolding late_code
late_is values earlier line m e reads emitted =
    ap (λ (x : LineMeaning). code_of_label values (place_after earlier) x.meaning) (says line m reads)
    ∙ ap (λ place. code_of_label values place m.meaning) (sym (place_emitted values earlier e emitted))

pub late_none : (values : Values) (earlier : List (List ℕ)) (line : List ℕ) (m : LineMeaning) (e n : Emission)
    → line_of line ≡ Ok m → Emits values m.meaning e n → IsEmitted values earlier e → late_code values earlier line ≡ None
late_none values earlier line m e n reads emits emitted =
    late_is values earlier line m e reads emitted
    ∙ no_late values (base_of e.section + length (bytes_in e.section (sections_in e))) m.meaning emits.bytes emits.has_bytes

pub late_some : (values : Values) (earlier : List (List ℕ)) (line : List ℕ) (m : LineMeaning) (e : Emission) (code : AsmCode)
    → line_of line ≡ Ok m → code_of_label values (base_of e.section + length (bytes_in e.section (sections_in e))) m.meaning ≡ Some code
    → IsEmitted values earlier e → late_code values earlier line ≡ Some code
late_some values earlier line m e code reads has emitted = late_is values earlier line m e reads emitted ∙ has

-- a line without an early code is read
pub is_read : {P : Type 0} → (size : ℕ) (earlier : List (List ℕ)) (line : List ℕ) (code : AsmCode) → line_of line ≡ Err code → early_code size earlier line ≡ None → P
is_read size earlier line code reads none =
    let s = sound size earlier line none in
    cc (s.reads, reads)

-- the pass over the lines
pub emitting_start : (values : Values) (source : List ℕ) (e : Emission) → e.section ≡ Text → e.text.items ≡ [] → e.static_data.items ≡ [] → Emitting values source source 1 e
unfolding section_after size_of
emitting_start values source e begins no_text no_data = record {
  earlier = [];
  next = next_start source;
  emitted = record {
    section_is = begins;
    text_is = ap length no_text;
    data_is = ap length no_data;
    bytes_are = rw (no_text, no_data) refl;
  };
  none = tt;
}

none_here : (source rest : List ℕ) (number : ℕ) (earlier : List (List ℕ)) → IsNext source rest number earlier
    → NoneHas (early_code (length source)) (lines_back source) → NoneHas (early_code (length source)) earlier
none_here source rest number earlier next none =
    none_before (early_code (length source)) (lines_of rest) earlier (subst (NoneHas (early_code (length source))) (sym next.split) none)

room_for : (values : Values) (size : ℕ) (earlier : List (List ℕ)) (e : Emission) → NoneHas (early_code size) earlier → IsEmitted values earlier e → HasRoom e
room_for values size earlier e none emitted =
    let sizes = sized size earlier none in
    record { text_fits = rw emitted.text_is sizes.text_fits; data_fits = rw emitted.data_is sizes.data_fits }

pub emitting_room : (values : Values) (source rest : List ℕ) (number : ℕ) (e : Emission)
    → NoneHas (early_code (length source)) (lines_back source) → Emitting values source rest number e → HasRoom e
emitting_room values source rest number e none before =
    room_for values (length source) before.earlier e (none_here source rest number before.earlier before.next none) before.emitted

pub emitting_step : (values : Values) (source rest line after : List ℕ) (number : ℕ) (e n : Emission)
    → NoneHas (early_code (length source)) (lines_back source) → lines_of rest ≡ line ∷ lines_of after → length after < length rest
    → ((size : ℕ) (earlier : List (List ℕ)) → IsEmitted values earlier e → early_code size earlier line ≡ None → IsEmitted values (line ∷ earlier) n)
    → ((size : ℕ) (earlier : List (List ℕ)) → IsEmitted values earlier e → early_code size earlier line ≡ None → late_code values earlier line ≡ None)
    → Emitting values source rest number e → Emitting values source after (number + 1) n
emitting_step values source rest line after number e n none cut shorter emits late before =
    let next = next_step source rest line after number before.earlier cut shorter before.next in
    let here = (none_here source after (number + 1) (line ∷ before.earlier) next none).0 in
    record {
      earlier = line ∷ before.earlier;
      next = next;
      emitted = emits (length source) before.earlier before.emitted here;
      none = (late (length source) before.earlier before.emitted here, before.none);
    }

pub emitting_fault : (values all : Values) (source rest line after : List ℕ) (number : ℕ) (e : Emission) (code : AsmCode)
    → values ≡ all → NoneHas (early_code (length source)) (lines_back source) → lines_of rest ≡ line ∷ lines_of after → length after < length rest
    → ((size : ℕ) (earlier : List (List ℕ)) → IsEmitted values earlier e → early_code size earlier line ≡ None → late_code values earlier line ≡ Some code)
    → Emitting values source rest number e → IsFirst (late_code all) (lines_of source) (record { line = number; code = code })
emitting_fault values all source rest line after number e code same none cut shorter late before =
    let next = next_step source rest line after number before.earlier cut shorter before.next in
    let here = (none_here source after (number + 1) (line ∷ before.earlier) next none).0 in
    let first = next_first (late_code values) source rest line after number before.earlier code cut (late (length source) before.earlier before.emitted here) before.none before.next in
    subst (λ (vs : Values). IsFirst (late_code vs) (lines_of source) (record { line = number; code = code })) same first

pub emitting_end : (values all : Values) (source rest : List ℕ) (number : ℕ) (e : Emission) → values ≡ all → rest ≡ [] → Emitting values source rest number e
    → AreBytesOf all (lines_back source) (sections_in e)
emitting_end values all source rest number e same empty before =
    let whole = next_end source rest number before.earlier empty before.next in
    subst (λ (vs : Values). AreBytesOf vs (lines_back source) (sections_in e)) same
    (subst (λ (ls : List (List ℕ)). AreBytesOf values ls (sections_in e)) whole before.emitted.bytes_are)

pub emitting_limits : (values : Values) (source rest : List ℕ) (number : ℕ) (e : Emission)
    → NoneHas (early_code (length source)) (lines_back source) → Emitting values source rest number e → AreWithinLimits e.text.items e.static_data.items
emitting_limits values source rest number e none before =
    let sizes = sized (length source) before.earlier (none_here source rest number before.earlier before.next none) in
    record {
      whole_words = rw before.emitted.text_is sizes.words;
      text_fits = rw before.emitted.text_is sizes.text_fits;
      data_fits = rw before.emitted.data_is sizes.data_fits;
    }

pub labels_near : (values all : Values) (source : List ℕ) → values ≡ all → all ≡ value_in (lines_back source)
    → NoneHas (early_code (length source)) (lines_back source) → AreNear values
labels_near values all source same is none = subst AreNear (sym (same ∙ is)) (values_near (length source) (lines_back source) none)
