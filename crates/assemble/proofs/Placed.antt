-- One line of the first pass, and the first fault.
use Rattle.std.proofs.Common.{◌≡◌, ℕ, ◌+◌, Bool, true, false, List, ◌∷◌, refl, sym, ap, subst, ◌∙◌}
use Rattle.std.specs.Prelude.{Option, Some, None, Ok, Err, nat_lt, if◌then◌else◌}
use Rattle.assemble.specs.declared.asm_line.fault.AsmCode.{AsmCode}
use Rattle.assemble.specs.declared.asm_line.fault.AsmCode.TheVariants.{LabelTwice, WrongSection, TooLarge}
use Rattle.asm_lex.specs.declared.asm_names.kinds.Section.{Section}
use Rattle.asm_lex.specs.declared.asm_names.kinds.Section.TheVariants.{Text, Data}
use Rattle.assemble.specs.Lines.{line_of}
use Rattle.assemble.specs.Meanings.{Meaning, LineMeaning}
use Rattle.assemble.specs.declared.labels.Labels.{Labels}
use Rattle.assemble.specs.declared.position.Position.{Position}
use Rattle.assemble.specs.Places.{said, label_of, meaning_in, base_of, limit_of, share, size_at, section_from, section_after, size_of, place_after, value_in}
use Rattle.assemble.specs.SourceLines.{Values, stands_in}
use Rattle.assemble.specs.Faults.{is_defined, passes_limit, code_of_label, code_of_meaning, code_of_said, late_code}
use Rattle.assemble.specs.Labels.{place_at, noted}
use Rattle.assemble.specs.Positions.{size_by, size_in, moved, stepped, IsAfter}
use Rattle.assemble.specs.Passes.{IsPlaced}

-- one step of each definition
pub section_next : (line : List ℕ) (earlier : List (List ℕ)) → section_after (line ∷ earlier) ≡ section_from (section_after earlier) (meaning_in line)
unfolding section_after
section_next line earlier = refl

pub size_next : (s : Section) (line : List ℕ) (earlier : List (List ℕ))
    → size_of s (line ∷ earlier) ≡ size_of s earlier + share s (section_after earlier) (size_at (base_of s + size_of s earlier) (meaning_in line))
unfolding size_of
size_next s line earlier = refl

pub value_next : (line : List ℕ) (earlier : List (List ℕ)) (t : List ℕ)
    → value_in (line ∷ earlier) t ≡ noted (label_of line) (place_after earlier) (value_in earlier) t
unfolding value_in
value_next line earlier t = refl

-- the size of the section in which the next line stands
size_by_after : (s : Section) (p : Position) (earlier : List (List ℕ)) → IsAfter earlier p → size_by s p ≡ size_of s earlier
size_by_after Text p earlier a = a.text_is
size_by_after Data p earlier a = a.data_is

pub size_here : (p : Position) (earlier : List (List ℕ)) → IsAfter earlier p → size_in p ≡ size_of (section_after earlier) earlier
size_here p earlier a = size_by_after p.section p earlier a ∙ ap (λ s. size_of s earlier) a.section_is

pub place_here : (p : Position) (earlier : List (List ℕ)) → IsAfter earlier p → base_of p.section + size_in p ≡ place_after earlier
unfolding place_after
place_here p earlier a = ap (λ s. base_of s + size_in p) a.section_is ∙ ap (λ n. base_of (section_after earlier) + n) (size_here p earlier a)

-- the position after one line more
pub moved_after : (p : Position) (line : List ℕ) (earlier : List (List ℕ)) → IsAfter earlier p → IsAfter (line ∷ earlier) (moved p (meaning_in line))
moved_after p line earlier a = record {
  section_is = ap (λ s. section_from s (meaning_in line)) a.section_is ∙ sym (section_next line earlier);
  text_is = rw (a.section_is, a.text_is) (sym (size_next Text line earlier));
  data_is = rw (a.section_is, a.data_is) (sym (size_next Data line earlier));
}

-- what a line that reads says
pub says : (line : List ℕ) (m : LineMeaning) → line_of line ≡ Ok m → said (line_of line) ≡ m
says line m e = ap said e

-- the codes of a statement, by the position
by_stand : (b t : Bool) (p q : Position) (m : Meaning)
    → (if b then (if t then Err TooLarge else Ok (moved p m)) else Err WrongSection) ≡ Ok q → (b ≡ true) × (t ≡ false) × (q ≡ moved p m)
by_stand true true p q m h = cc
by_stand true false p q m h = (refl, refl, cc)
by_stand false true p q m h = cc
by_stand false false p q m h = cc

pub stepped_ok : (p q : Position) (m : Meaning) → stepped p m ≡ Ok q
    → (stands_in p.section m ≡ true) × (nat_lt (limit_of p.section) (size_in p + size_at (base_of p.section + size_in p) m) ≡ false) × (q ≡ moved p m)
stepped_ok p q m h = by_stand (stands_in p.section m) (nat_lt (limit_of p.section) (size_in p + size_at (base_of p.section + size_in p) m)) p q m h

code_by : (b t : Bool) (p : Position) (m : Meaning) (code : AsmCode)
    → (if b then (if t then Err TooLarge else Ok (moved p m)) else Err WrongSection) ≡ Err code
    → (if b then (if t then Some TooLarge else None) else Some WrongSection) ≡ Some code
code_by true true p m code h = cc
code_by true false p m code h = cc
code_by false true p m code h = cc
code_by false false p m code h = cc

-- the tests of the definitions are those of the position
pub stands_here : (p : Position) (earlier : List (List ℕ)) (m : Meaning) → IsAfter earlier p → stands_in p.section m ≡ stands_in (section_after earlier) m
stands_here p earlier m a = ap (λ s. stands_in s m) a.section_is

pub passes_here : (p : Position) (earlier : List (List ℕ)) (m : Meaning) → IsAfter earlier p
    → nat_lt (limit_of p.section) (size_in p + size_at (base_of p.section + size_in p) m) ≡ passes_limit earlier m
passes_here p earlier m a =
    ap (λ place. nat_lt (limit_of p.section) (size_in p + size_at place m)) (place_here p earlier a)
    ∙ ap (λ n. nat_lt (limit_of p.section) (n + size_at (place_after earlier) m)) (size_here p earlier a)
    ∙ ap (λ s. nat_lt (limit_of s) (size_of (section_after earlier) earlier + size_at (place_after earlier) m)) a.section_is

pub no_code : (p q : Position) (earlier : List (List ℕ)) (m : Meaning) → IsAfter earlier p → stepped p m ≡ Ok q → code_of_meaning earlier m ≡ None
no_code p q earlier m a h =
    let facts = stepped_ok p q m h in
    rw (← stands_here p earlier m a, ← passes_here p earlier m a, facts.0, facts.1) refl

pub some_code : (p : Position) (earlier : List (List ℕ)) (m : Meaning) (code : AsmCode) → IsAfter earlier p → stepped p m ≡ Err code → code_of_meaning earlier m ≡ Some code
some_code p earlier m code a h =
    rw (← stands_here p earlier m a, ← passes_here p earlier m a)
    (code_by (stands_in p.section m) (nat_lt (limit_of p.section) (size_in p + size_at (base_of p.section + size_in p) m)) p m code h)

-- a line that is placed has no early code, and what follows stands after it
pub line_placed : (p q : Position) (old new : Labels) (text : List ℕ) (m : LineMeaning) (earlier : List (List ℕ))
    → line_of text ≡ Ok m → stepped p m.meaning ≡ Ok q
    → ((t : List ℕ) → place_at new t ≡ noted m.label (base_of p.section + size_in p) (place_at old) t)
    → IsPlaced earlier p old → IsPlaced (text ∷ earlier) q new
line_placed p q old new text m earlier reads step notes placed =
    let same : said (line_of text) ≡ m = says text m reads in
    let moves = (stepped_ok p q m.meaning step).2 in
    record {
      position_is = subst (IsAfter (text ∷ earlier)) (ap (λ (x : LineMeaning). moved p x.meaning) same ∙ sym moves) (moved_after p text earlier placed.position_is);
      labels_are = λ i t. (notes t
          ∙ ap (λ (vs : Values). noted m.label (base_of p.section + size_in p) vs t) placed.labels_are
          ∙ ap (λ place. noted m.label place (value_in earlier) t) (place_here p earlier placed.position_is)
          ∙ ap (λ (x : LineMeaning). noted x.label (place_after earlier) (value_in earlier) t) (sym same)
          ∙ sym (value_next text earlier t)) i;
    }

pub line_has_none : (p q : Position) (old : Labels) (text : List ℕ) (m : LineMeaning) (earlier : List (List ℕ))
    → line_of text ≡ Ok m → stepped p m.meaning ≡ Ok q → is_defined (place_at old) m.label ≡ false
    → IsPlaced earlier p old → code_of_said earlier (line_of text) ≡ None
line_has_none p q old text m earlier reads step once placed =
    let new : is_defined (value_in earlier) m.label ≡ false = ap (λ (vs : Values). is_defined vs m.label) (sym placed.labels_are) ∙ once in
    rw (reads, new) (no_code p q earlier m.meaning placed.position_is step)

-- the lowest code of a line that is not placed
pub own_code : (text : List ℕ) (earlier : List (List ℕ)) (code : AsmCode) → line_of text ≡ Err code → code_of_said earlier (line_of text) ≡ Some code
own_code text earlier code reads = rw reads refl

pub twice_code : (p : Position) (old : Labels) (text : List ℕ) (m : LineMeaning) (earlier : List (List ℕ))
    → line_of text ≡ Ok m → is_defined (place_at old) m.label ≡ true
    → IsPlaced earlier p old → code_of_said earlier (line_of text) ≡ Some LabelTwice
twice_code p old text m earlier reads twice placed =
    let again : is_defined (value_in earlier) m.label ≡ true = ap (λ (vs : Values). is_defined vs m.label) (sym placed.labels_are) ∙ twice in
    rw (reads, again) refl

pub statement_code : (p : Position) (old : Labels) (text : List ℕ) (m : LineMeaning) (earlier : List (List ℕ)) (code : AsmCode)
    → line_of text ≡ Ok m → stepped p m.meaning ≡ Err code → is_defined (place_at old) m.label ≡ false
    → IsPlaced earlier p old → code_of_said earlier (line_of text) ≡ Some code
statement_code p old text m earlier code reads step once placed =
    let new : is_defined (value_in earlier) m.label ≡ false = ap (λ (vs : Values). is_defined vs m.label) (sym placed.labels_are) ∙ once in
    rw (reads, new) (some_code p earlier m.meaning code placed.position_is step)

-- the late code of a line, and the position behind it
pub late_is : (values : Values) (p : Position) (text : List ℕ) (m : LineMeaning) (earlier : List (List ℕ)) (place : ℕ) (code : Option AsmCode)
    → line_of text ≡ Ok m → place ≡ base_of p.section + size_in p → code ≡ code_of_label values place m.meaning → IsAfter earlier p
    → late_code values earlier text ≡ code
unfolding late_code
late_is values p text m earlier place code reads at is a =
    ap (λ (x : LineMeaning). code_of_label values (place_after earlier) x.meaning) (says text m reads)
    ∙ ap (λ (n : ℕ). code_of_label values n m.meaning) (sym (at ∙ place_here p earlier a))
    ∙ sym is

pub next_after : (p q : Position) (text : List ℕ) (m : LineMeaning) (earlier : List (List ℕ)) → line_of text ≡ Ok m → stepped p m.meaning ≡ Ok q
    → IsAfter earlier p → IsAfter (text ∷ earlier) q
next_after p q text m earlier reads step a =
    let moves = (stepped_ok p q m.meaning step).2 in
    subst (IsAfter (text ∷ earlier)) (ap (λ (x : LineMeaning). moved p x.meaning) (says text m reads) ∙ sym moves) (moved_after p text earlier a)
