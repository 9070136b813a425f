-- A source that is assembled has no fault, and no source has two first faults.
use Rattle.std.proofs.Common.{◌≡◌, ℕ, ◌+◌, ◌≤◌, false, inl, inr, List, [], ◌∷◌, ◌++◌, length, refl, sym, ap, subst, ◌∙◌, arith, length-append, le-ltb}
use Rattle.std.specs.Prelude.{Some, None, reverse}
use Rattle.std.proofs.lemmas.List.{reverse-reverse, reverse-append}
use Rattle.asm_lex.specs.Lines.{lines_of}
use Rattle.program.specs.Sections.{Sections}
use Rattle.program.specs.declared.TheConstants.{TEXT_LIMIT, DATA_LIMIT}
use Rattle.assemble.specs.declared.asm_line.fault.AsmCode.{AsmCode}
use Rattle.asm_lex.specs.declared.asm_names.kinds.Section.{Section}
use Rattle.asm_lex.specs.declared.asm_names.kinds.Section.TheVariants.{Text, Data}
use Rattle.assemble.specs.Meanings.{LineMeaning}
use Rattle.assemble.specs.declared.TheConstants.{SOURCE_LIMIT}
use Rattle.assemble.specs.declared.fault.AsmFault.{AsmFault}
use Rattle.assemble.specs.Places.{base_of, limit_of, size_at, section_after, size_of, place_after, value_in}
use Rattle.assemble.specs.SourceLines.{Values}
use Rattle.assemble.specs.Faults.{Codes, is_defined, passes_limit, code_of_label, early_code, late_code, NoneHas, IsFirst}
use Rattle.assemble.specs.Assembly.{bytes_in, added, Adds, AreBytesOf, Assembles, IsFirstFault, lines_back, values_of}
use Rattle.assemble.proofs.ByteSteps.{has_size, no_late}
use Rattle.assemble.proofs.First.{aux_is, early_none}
use Rattle.assemble.proofs.Placed.{says}

-- the lines up to a line, last first, end those of the source
back_split : (all earlier later : List (List ℕ)) (line : List ℕ) → all ≡ reverse earlier ++ line ∷ later → reverse all ≡ reverse later ++ line ∷ earlier
back_split all earlier later line e =
    ap reverse e ∙ reverse-append (reverse earlier) (line ∷ later)
    ∙ ap (λ r. reverse (line ∷ later) ++ r) (reverse-reverse earlier)
    ∙ sym (aux_is (line ∷ later) earlier) ∙ aux_is later (line ∷ earlier)

none_in : (code_of : Codes) (later rest : List (List ℕ)) → NoneHas code_of (later ++ rest) → NoneHas code_of rest
none_in code_of [] rest none = none
none_in code_of (line ∷ later) rest none = none_in code_of later rest none.1

-- where no line has a code, none is the first that has one
no_first : {P : Type 0} → (code_of : Codes) (lines : List (List ℕ)) (fault : AsmFault) → NoneHas code_of (reverse lines) → IsFirst code_of lines fault → P
no_first code_of lines fault none first =
    let here = (none_in code_of (reverse first.later) (first.line ∷ first.earlier) (subst (NoneHas code_of) (back_split lines first.earlier first.later first.line first.split) none)).0 in
    let code = first.code in
    cc (here, code)

-- one first line
heads : (code_of : Codes) (one two : List ℕ) (before after : List (List ℕ)) (fault other : AsmFault)
    → one ∷ before ≡ two ∷ after
    → fault.line ≡ length before + 1 → code_of before one ≡ Some fault.code
    → other.line ≡ length after + 1 → code_of after two ≡ Some other.code → fault ≡ other
heads code_of one two before after fault other e number code number' code' =
    let line : one ≡ two = cc in
    let earlier : before ≡ after = cc in
    let numbers : fault.line ≡ other.line = number ∙ ap (λ (ls : List (List ℕ)). length ls + 1) earlier ∙ sym number' in
    let some : Some fault.code ≡ Some other.code = sym code ∙ ap (λ l. code_of before l) line ∙ ap (λ ls. code_of ls two) earlier ∙ code' in
    let codes : fault.code ≡ other.code = cc in
    λ i. record { line = numbers i; code = codes i }

later_has : {P : Type 0} → (code_of : Codes) (one two : List ℕ) (before after : List (List ℕ)) (xs : List (List ℕ)) (x : List ℕ) (code : AsmCode)
    → one ∷ before ≡ x ∷ (xs ++ two ∷ after) → NoneHas code_of before → code_of after two ≡ Some code → P
later_has code_of one two before after xs x code e none has =
    let rest : before ≡ xs ++ two ∷ after = cc in
    let here = (none_in code_of xs (two ∷ after) (subst (NoneHas code_of) rest none)).0 in
    cc (here, has)

one_split : (code_of : Codes) (xs ys : List (List ℕ)) (one two : List ℕ) (before after : List (List ℕ)) (fault other : AsmFault)
    → xs ++ one ∷ before ≡ ys ++ two ∷ after → NoneHas code_of before → NoneHas code_of after
    → fault.line ≡ length before + 1 → code_of before one ≡ Some fault.code
    → other.line ≡ length after + 1 → code_of after two ≡ Some other.code → fault ≡ other
one_split code_of [] [] one two before after fault other e none none' number code number' code' = heads code_of one two before after fault other e number code number' code'
one_split code_of [] (y ∷ ys) one two before after fault other e none none' number code number' code' = later_has code_of one two before after ys y other.code e none code'
one_split code_of (x ∷ xs) [] one two before after fault other e none none' number code number' code' = later_has code_of two one after before xs x fault.code (sym e) none' code
one_split code_of (x ∷ xs) (y ∷ ys) one two before after fault other e none none' number code number' code' =
    let rest : xs ++ one ∷ before ≡ ys ++ two ∷ after = cc in
    one_split code_of xs ys one two before after fault other rest none none' number code number' code'

one_first : (code_of : Codes) (lines : List (List ℕ)) (fault other : AsmFault) → IsFirst code_of lines fault → IsFirst code_of lines other → fault ≡ other
one_first code_of lines fault other a b =
    one_split code_of (reverse a.later) (reverse b.later) a.line b.line a.earlier b.earlier fault other
    (sym (back_split lines a.earlier a.later a.line a.split) ∙ back_split lines b.earlier b.later b.line b.split)
    a.before b.before a.number a.code b.number b.code

pub one_fault : (source : List ℕ) (fault other : AsmFault) → IsFirstFault source fault → IsFirstFault source other → fault ≡ other
one_fault source fault other (inl a) (inl b) = one_first (early_code (length source)) (lines_of source) fault other a b
one_fault source fault other (inl a) (inr b) = no_first (early_code (length source)) (lines_of source) fault b.0 a
one_fault source fault other (inr a) (inl b) = no_first (early_code (length source)) (lines_of source) other a.0 b
one_fault source fault other (inr a) (inr b) = one_first (late_code (values_of source)) (lines_of source) fault other a.1 b.1

-- the sections grow with each line
pub record AreGrown (s : Section) (bytes : List ℕ) (before after : Sections) : Type 0 where
  pub text_grows : length before.text ≤ length after.text
  pub data_grows : length before.static_data ≤ length after.static_data
  pub here : length (bytes_in s after) ≡ length (bytes_in s before) + length bytes

grown : (s : Section) (bytes : List ℕ) (before after : Sections) → after ≡ added s bytes before → AreGrown s bytes before after
grown Text bytes before after e =
    let long = ap (λ (x : Sections). length x.text) e ∙ length-append before.text bytes in
    let same = ap (λ (x : Sections). length x.static_data) e in
    record { text_grows = rw long (omega arith); data_grows = rw same (omega arith); here = long }
grown Data bytes before after e =
    let long = ap (λ (x : Sections). length x.static_data) e ∙ length-append before.static_data bytes in
    let same = ap (λ (x : Sections). length x.text) e in
    record { text_grows = rw same (omega arith); data_grows = rw long (omega arith); here = long }

section_fits : (s : Section) (sections : Sections) → length sections.text ≤ TEXT_LIMIT → length sections.static_data ≤ DATA_LIMIT → length (bytes_in s sections) ≤ limit_of s
section_fits Text sections text_fits data_fits = text_fits
section_fits Data sections text_fits data_fits = data_fits

-- a line that adds its bytes within the limits has no code
passes_not : (values : Values) (earlier : List (List ℕ)) (line : List ℕ) (before after : Sections) (a : Adds values earlier line before after)
    → length after.text ≤ TEXT_LIMIT → length after.static_data ≤ DATA_LIMIT → passes_limit earlier a.is_line.says.meaning ≡ false
unfolding place_after
passes_not values earlier line before after a text_fits data_fits =
    let s = section_after earlier in
    let grows = (grown s a.bytes before after a.after_is).here in
    let place : base_of s + size_of s earlier ≡ base_of s + length (bytes_in s before) = a.place in
    let size = has_size values (place_after earlier) a.is_line.says.meaning a.bytes a.is_line.has_bytes in
    let fits = section_fits s after text_fits data_fits in
    le-ltb (limit_of s) (size_of s earlier + size_at (place_after earlier) a.is_line.says.meaning) (rw (← size) (omega arith))

no_early : (values : Values) (size : ℕ) (earlier : List (List ℕ)) (line : List ℕ) (before after : Sections) (a : Adds values earlier line before after)
    → size ≤ SOURCE_LIMIT → length after.text ≤ TEXT_LIMIT → length after.static_data ≤ DATA_LIMIT → early_code size earlier line ≡ None
no_early values size earlier line before after a source_fits text_fits data_fits =
    let once : is_defined (value_in earlier) a.is_line.says.label ≡ false = ap (λ (m : LineMeaning). is_defined (value_in earlier) m.label) (sym (says line a.is_line.says a.is_line.reads)) ∙ a.once in
    let within = passes_not values earlier line before after a text_fits data_fits in
    early_none size earlier line source_fits (rw (a.is_line.reads, once, a.is_line.stands, within) refl)

no_label_fault : (values : Values) (earlier : List (List ℕ)) (line : List ℕ) (before after : Sections) (a : Adds values earlier line before after) → late_code values earlier line ≡ None
unfolding late_code
no_label_fault values earlier line before after a =
    ap (λ (m : LineMeaning). code_of_label values (place_after earlier) m.meaning) (says line a.is_line.says a.is_line.reads)
    ∙ no_late values (place_after earlier) a.is_line.says.meaning a.bytes a.is_line.has_bytes

none_early : (values : Values) (size : ℕ) (lines : List (List ℕ)) (sections : Sections) → AreBytesOf values lines sections
    → size ≤ SOURCE_LIMIT → length sections.text ≤ TEXT_LIMIT → length sections.static_data ≤ DATA_LIMIT → NoneHas (early_code size) lines
none_early values size [] sections all source_fits text_fits data_fits = tt
none_early values size (line ∷ earlier) sections all source_fits text_fits data_fits =
    let g = grown (section_after earlier) all.2.bytes all.0 sections all.2.after_is in
    let text_grows = g.text_grows in
    let data_grows = g.data_grows in (
      no_early values size earlier line all.0 sections all.2 source_fits text_fits data_fits,
      none_early values size earlier all.0 all.1 source_fits (omega arith) (omega arith),
    )

none_late : (values : Values) (lines : List (List ℕ)) (sections : Sections) → AreBytesOf values lines sections → NoneHas (late_code values) lines
none_late values [] sections all = tt
none_late values (line ∷ earlier) sections all = (no_label_fault values earlier line all.0 sections all.2, none_late values earlier all.0 all.1)

pub no_fault : {P : Type 0} → (source : List ℕ) (object : Sections) (fault : AsmFault) → Assembles source object → IsFirstFault source fault → P
no_fault source object fault a (inl first) =
    no_first (early_code (length source)) (lines_of source) fault
    (none_early (values_of source) (length source) (lines_back source) object a.lines a.source_fits a.text_fits a.data_fits) first
no_fault source object fault a (inr first) =
    no_first (late_code (values_of source)) (lines_of source) fault (none_late (values_of source) (lines_back source) object a.lines) first.1
