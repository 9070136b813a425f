-- The lines that hold a source's text, from the bytes of text through each.
use Rattle.std.proofs.Common.{◌≡◌, ℕ, ◌+◌, ◌-◌, ◌<◌, ◌≤◌, Bool, true, false, List, [], ◌∷◌, ◌++◌, length, get_or, refl, sym, ap, ◌∙◌, arith, leb, leb-true, leb-false, le-leb, lt-ltb, le-ltb, add-zero, add-one, inl, inr}
use Rattle.std.proofs.lemmas.Bool.{cases_lt, lt-leb}
use Rattle.std.proofs.lemmas.Bool.Decides.{nat_tests}
use Rattle.std.specs.Prelude.{All, Some, None, nat_lt, nat_le, ◌&&◌, ◌==◌, if◌then◌else◌}
use Rattle.std.specs.List.Sorted.{IsNonDecreasingBy, IsPartitionPoint, IsPartitionedBy}
use Rattle.std.proofs.lemmas.List.{length-append}
use Rattle.std.proofs.lemmas.List.Folds.{position_or_len_push}
use Rattle.std.proofs.lemmas.List.Sums.{position_or_len_is}
use Rattle.std.proofs.lemmas.List.Sorted.{IsNonDecreasingBy-push, IsNonDecreasingBy-short, IsPartitionedBy-leb}
use Rattle.std.proofs.lemmas.List.Elements.{All-nil, All-cons, All-append}
use Rattle.asm_lex.specs.Lines.{lines_of}
use Rattle.assemble.specs.declared.asm_line.fault.AsmCode.{AsmCode}
use Rattle.assemble.specs.Lines.{line_of}
use Rattle.asm_lex.specs.declared.asm_names.kinds.Section.{Section}
use Rattle.asm_lex.specs.declared.asm_names.kinds.Section.TheVariants.{Text, Data}
use Rattle.assemble.specs.declared.TheConstants.{SOURCE_LIMIT}
use Rattle.assemble.specs.declared.labels.Labels.{Labels}
use Rattle.assemble.specs.declared.position.Position.{Position}
use Rattle.assemble.specs.Places.{base_of, meaning_in, place_after, section_after, share, size_at, size_of}
use Rattle.assemble.specs.Faults.{IsFirst, code_of_said, early_code}
use Rattle.assemble.specs.Assembly.{lines_back}
use Rattle.assemble.specs.Labels.{place_at}
use Rattle.assemble.specs.LineNumbers.{Numbering, holds_text, is_text, line_number, lines_before, number_at, number_from, text_ends}
use Rattle.assemble.specs.Positions.{start}
use Rattle.assemble.specs.Passes.{IsPlaced}
use Rattle.assemble.proofs.First.{next_start, next_step, next_end, next_first, early_none, early_some}
use Rattle.assemble.proofs.FirstPass.{placed_none}
use Rattle.assemble.proofs.Placed.{size_next}

-- one step of each definition
ends_next : (line : List ℕ) (earlier : List (List ℕ)) → text_ends (line ∷ earlier) ≡ text_ends earlier ++ size_of Text (line ∷ earlier) ∷ []
unfolding text_ends
ends_next line earlier = refl

number_next : (line : List ℕ) (earlier : List (List ℕ)) (address : ℕ)
    → line_number (line ∷ earlier) address ≡ (if holds_text earlier line address then Some (length earlier + 1) else line_number earlier address)
unfolding line_number
number_next line earlier address = refl

length_ends : (lines : List (List ℕ)) → length (text_ends lines) ≡ length lines
unfolding text_ends
length_ends [] = refl
length_ends (line ∷ earlier) =
    let rest = length_ends earlier in
    let sum = length-append (text_ends earlier) (size_of Text (line ∷ earlier) ∷ []) in
    omega arith

-- the bytes of text of a line, by the bytes of text before and through it
record IsHeld (holds : Bool) (offset before after : ℕ) : Type 0 where
  pub more : before ≤ after
  pub yes : before ≤ offset → offset < after → holds ≡ true
  pub below : offset < before → holds ≡ false
  pub above : after ≤ offset → holds ≡ false

both_false : (a : Bool) → (a && false) ≡ false
both_false true = refl
both_false false = refl

held_by : (s : Section) (f : Section → ℕ) (size : Section → ℕ) (offset : ℕ)
    → IsHeld (is_text s && nat_le (base_of s + f s) (base_of Text + offset) && nat_lt (base_of Text + offset) (base_of s + f s + size s))
    offset (f Text) (f Text + share Text s (size Text))
held_by Text f size offset = record {
  more = omega arith;
  yes = λ from to.
      let a : 65536 + f Text ≤ 65536 + offset = omega arith in
      let b : 65536 + offset < 65536 + f Text + size Text = omega arith in
      rw (le-leb (65536 + f Text) (65536 + offset) a, lt-ltb (65536 + offset) (65536 + f Text + size Text) b) refl;
  below = λ to.
      let a : 65536 + offset < 65536 + f Text = omega arith in
      rw (lt-leb (65536 + f Text) (65536 + offset) a) refl;
  above = λ from.
      let b : 65536 + f Text + size Text ≤ 65536 + offset = omega arith in
      rw (le-ltb (65536 + offset) (65536 + f Text + size Text) b) (both_false (nat_le (65536 + f Text) (65536 + offset)));
}
held_by Data f size offset = record {
  more = omega arith;
  yes = λ from to. absurd (omega arith);
  below = λ to. refl;
  above = λ from. refl;
}

held : (line : List ℕ) (earlier : List (List ℕ)) (offset : ℕ)
    → IsHeld (holds_text earlier line (base_of Text + offset)) offset (size_of Text earlier) (size_of Text (line ∷ earlier))
unfolding place_after
held line earlier offset =
    let by = held_by (section_after earlier) (λ s. size_of s earlier) (λ s. size_at (base_of s + size_of s earlier) (meaning_in line)) offset in
    rw (size_next Text line earlier) by

low_by : (s : Section) (f : Section → ℕ) (size address : ℕ) → address < 65536
    → (is_text s && nat_le (base_of s + f s) address && nat_lt address (base_of s + f s + size)) ≡ false
low_by Text f size address low =
    let a : address < 65536 + f Text = omega arith in
    rw (lt-leb (65536 + f Text) address a) refl
low_by Data f size address low = refl

none_below : (lines : List (List ℕ)) (address : ℕ) → address < 65536 → line_number lines address ≡ None
unfolding line_number place_after
none_below [] address low = refl
none_below (line ∷ earlier) address low =
    rw (low_by (section_after earlier) (λ s. size_of s earlier) (size_at (place_after earlier) (meaning_in line)) address low) (none_below earlier address low)

-- the first line through which there are more bytes
first_stays : (ends : List ℕ) (end offset : ℕ) → lines_before ends offset < length ends
    → lines_before (ends ++ end ∷ []) offset ≡ lines_before ends offset
first_stays ends end offset inside =
    let push = position_or_len_push (λ e. nat_lt offset e) ends end in
    let other : (lines_before ends offset == length ends) ≡ false = grind (arith, nat_tests) in
    push ∙ rw other refl

first_here : (ends : List ℕ) (end offset : ℕ) → lines_before ends offset ≡ length ends → offset < end
    → lines_before (ends ++ end ∷ []) offset ≡ length ends
first_here ends end offset past more =
    let push = position_or_len_push (λ e. nat_lt offset e) ends end in
    let same : (lines_before ends offset == length ends) ≡ true = grind (arith, nat_tests) in
    push ∙ rw (same, lt-ltb offset end more) (add-zero (length ends))

first_past : (ends : List ℕ) (end offset : ℕ) → lines_before ends offset ≡ length ends → end ≤ offset
    → lines_before (ends ++ end ∷ []) offset ≡ length ends + 1
first_past ends end offset past few =
    let push = position_or_len_push (λ e. nat_lt offset e) ends end in
    let same : (lines_before ends offset == length ends) ≡ true = grind (arith, nat_tests) in
    push ∙ rw (same, le-ltb offset end few) refl

-- what is found by the ends is the line's number
record Finds (lines : List (List ℕ)) (offset : ℕ) : Type 0 where
  pub low : offset < size_of Text lines → (lines_before (text_ends lines) offset < length lines)
      × (line_number lines (base_of Text + offset) ≡ Some (lines_before (text_ends lines) offset + 1))
  pub high : size_of Text lines ≤ offset → (lines_before (text_ends lines) offset ≡ length lines)
      × (line_number lines (base_of Text + offset) ≡ None)

finds_none : (offset : ℕ) → Finds [] offset
unfolding text_ends line_number size_of
finds_none offset = record { low = λ few. absurd (omega arith); high = λ past. (refl, refl) }

number_here : (line : List ℕ) (earlier : List (List ℕ)) (address : ℕ) → holds_text earlier line address ≡ true
    → line_number (line ∷ earlier) address ≡ Some (length earlier + 1)
number_here line earlier address holds = number_next line earlier address ∙ rw holds refl

number_before : (line : List ℕ) (earlier : List (List ℕ)) (address : ℕ) → holds_text earlier line address ≡ false
    → line_number (line ∷ earlier) address ≡ line_number earlier address
number_before line earlier address holds = number_next line earlier address ∙ rw holds refl

before_next : (line : List ℕ) (earlier : List (List ℕ)) (offset : ℕ) → lines_before (text_ends (line ∷ earlier)) offset
    ≡ lines_before (text_ends earlier ++ size_of Text (line ∷ earlier) ∷ []) offset
before_next line earlier offset = ap (λ (ends : List ℕ). lines_before ends offset) (ends_next line earlier)

finds_low : (line : List ℕ) (earlier : List (List ℕ)) (offset : ℕ) → Finds earlier offset → offset < size_of Text (line ∷ earlier)
    → (lines_before (text_ends (line ∷ earlier)) offset < length (line ∷ earlier))
    × (line_number (line ∷ earlier) (base_of Text + offset) ≡ Some (lines_before (text_ends (line ∷ earlier)) offset + 1))
finds_low line earlier offset old inside =
    let h = held line earlier offset in
    let next = before_next line earlier offset in
    let count = length_ends earlier in
    elim (cases_lt offset (size_of Text earlier)) [
      | inl less ↦
          let was = old.low less in
          let first = was.0 in
          let stays = next ∙ first_stays (text_ends earlier) (size_of Text (line ∷ earlier)) offset (omega arith) in
          (omega arith, rw stays (number_before line earlier (base_of Text + offset) (h.below less) ∙ was.1))
      | inr past ↦
          let was = old.high past in
          let first = was.0 in
          let here = next ∙ first_here (text_ends earlier) (size_of Text (line ∷ earlier)) offset (omega arith) inside ∙ count in
          (omega arith, rw here (number_here line earlier (base_of Text + offset) (h.yes past inside)))
    ]

finds_high : (line : List ℕ) (earlier : List (List ℕ)) (offset : ℕ) → Finds earlier offset → size_of Text (line ∷ earlier) ≤ offset
    → (lines_before (text_ends (line ∷ earlier)) offset ≡ length (line ∷ earlier))
    × (line_number (line ∷ earlier) (base_of Text + offset) ≡ None)
finds_high line earlier offset old past =
    let h = held line earlier offset in
    let more = h.more in
    let next = before_next line earlier offset in
    let count = length_ends earlier in
    let was = old.high (omega arith) in
    let first = was.0 in
    let all = next ∙ first_past (text_ends earlier) (size_of Text (line ∷ earlier)) offset (omega arith) past in
    (omega arith, number_before line earlier (base_of Text + offset) (h.above past) ∙ was.1)

finds : (lines : List (List ℕ)) (offset : ℕ) → Finds lines offset
finds [] offset = finds_none offset
finds (line ∷ earlier) offset = record {
  low = finds_low line earlier offset (finds earlier offset);
  high = finds_high line earlier offset (finds earlier offset);
}

from_is : (lines : List (List ℕ)) (offset : ℕ) → number_from (text_ends lines) offset ≡ line_number lines (base_of Text + offset)
from_is lines offset =
    let found = finds lines offset in
    let count = length_ends lines in
    elim (cases_lt offset (size_of Text lines)) [
      | inl less ↦
          let is = found.low less in
          let first = is.0 in
          let inside : lines_before (text_ends lines) offset < length (text_ends lines) = omega arith in
          rw (lt-ltb (lines_before (text_ends lines) offset) (length (text_ends lines)) inside) (sym is.1)
      | inr past ↦
          let is = found.high past in
          let first = is.0 in
          let outside : length (text_ends lines) ≤ lines_before (text_ends lines) offset = omega arith in
          rw (le-ltb (lines_before (text_ends lines) offset) (length (text_ends lines)) outside) (sym is.1)
    ]

at_is : (lines : List (List ℕ)) (address : ℕ) → number_at (text_ends lines) address ≡ line_number lines address
unfolding number_at
at_is lines address = elim (cases_lt address 65536) [
  | inl below ↦ rw (lt-leb 65536 address below) (sym (none_below lines address below))
  | inr above ↦
      let back : 65536 + (address - 65536) ≡ address = omega arith in
      rw (le-leb 65536 address above) (from_is lines (address - 65536) ∙ ap (λ (a : ℕ). line_number lines a) back)
]

pub numbers_are : (lines : List (List ℕ)) (ends : List ℕ) → ends ≡ text_ends lines → (address : ℕ) → number_at ends address ≡ line_number lines address
numbers_are lines ends e address = ap (λ (es : List ℕ). number_at es address) e ∙ at_is lines address

-- the ends don't fall
ends_none : text_ends [] ≡ []
unfolding text_ends
ends_none = refl

ends_below : (lines : List (List ℕ)) → All (λ (end : ℕ). end ≤ size_of Text lines) (text_ends lines)
ends_below [] = rw ends_none (All-nil (λ (end : ℕ). end ≤ size_of Text []))
ends_below (line ∷ earlier) =
    let before = ends_below earlier in
    let more = (held line earlier 0).more in
    let P : ℕ → Type 0 = λ end. end ≤ size_of Text (line ∷ earlier) in
    rw (ends_next line earlier) (All-append P (text_ends earlier) (size_of Text (line ∷ earlier) ∷ [])
    (λ k d inside. let was = before k d inside in omega arith)
    (All-cons P (size_of Text (line ∷ earlier)) [] (omega arith) (All-nil P)))

rises : (lines : List (List ℕ)) → IsNonDecreasingBy (λ (end : ℕ). end) (text_ends lines)
rises [] = rw ends_none (IsNonDecreasingBy-short (λ (end : ℕ). end) [] (omega arith))
rises (line ∷ earlier) =
    let before = ends_below earlier in
    let more = (held line earlier 0).more in
    rw (ends_next line earlier) (IsNonDecreasingBy-push (λ (end : ℕ). end) (text_ends earlier) (size_of Text (line ∷ earlier)) (rises earlier)
    (λ d some. let was = before (length (text_ends earlier) - 1) d (omega arith) in omega arith))

pub ends_rise : (lines : List (List ℕ)) (ends : List ℕ) → ends ≡ text_ends lines → IsNonDecreasingBy (λ (end : ℕ). end) ends
ends_rise lines ends e = rw e (rises lines)

-- the search among them
pub found_at : (ends : List ℕ) (offset i : ℕ) → i ≤ length ends
    → IsPartitionPoint (λ (end : ℕ). leb end offset ≡ true) (λ (end : ℕ). leb end offset ≡ false) ends i → lines_before ends offset ≡ i
found_at ends offset i fits point =
    position_or_len_is (λ (end : ℕ). nat_lt offset end) ends i 0 fits
    (λ k below. le-ltb offset (get_or ends k 0) (leb-true (get_or ends k 0) offset (point.0 k 0 (omega arith) below)))
    (λ inside. lt-ltb offset (get_or ends i 0) (leb-false (get_or ends i 0) offset (point.1 i 0 (omega arith) inside)))

pub finds_line : (ends found : List ℕ) (address offset i : ℕ) → found ≡ ends → offset ≡ address - 65536
    → IsNonDecreasingBy (λ (end : ℕ). end) ends → i ≤ length found
    → (IsPartitionedBy (λ (end : ℕ). leb end offset) found
    → IsPartitionPoint (λ (end : ℕ). leb end offset ≡ true) (λ (end : ℕ). leb end offset ≡ false) found i)
    → lines_before ends (address - 65536) ≡ i
finds_line ends found address offset i e is rising fits point =
    let parted : IsPartitionedBy (λ (end : ℕ). leb end offset) ends = IsPartitionedBy-leb (λ (end : ℕ). end) ends offset rising in
    ap (λ (es : List ℕ). lines_before es (address - 65536)) (sym e)
    ∙ ap (λ (o : ℕ). lines_before found o) (sym is)
    ∙ found_at found offset i fits (point (rw e parted))

pub at_low : (ends : List ℕ) (address : ℕ) → address < 65536 → number_at ends address ≡ None
unfolding number_at
at_low ends address below = rw (lt-leb 65536 address below) refl

pub at_found : (ends : List ℕ) (address i : ℕ) → 65536 ≤ address → lines_before ends (address - 65536) ≡ i → i < length ends
    → number_at ends address ≡ Some (i + 1)
unfolding number_at
at_found ends address i above first inside =
    rw (le-leb 65536 address above, first, lt-ltb i (length ends) inside) refl

pub at_past : (ends : List ℕ) (address i : ℕ) → 65536 ≤ address → lines_before ends (address - 65536) ≡ i → length ends ≤ i
    → number_at ends address ≡ None
unfolding number_at
at_past ends address i above first outside =
    rw (le-leb 65536 address above, first, le-ltb i (length ends) outside) refl

-- the pass from one line to the next
pub numbering_start : (source : List ℕ) (p : Position) (labels : Labels) (ends : List ℕ) → p ≡ start
    → ((t : List ℕ) → place_at labels t ≡ None) → ends ≡ [] → Numbering source source 1 p labels ends
unfolding text_ends
numbering_start source p labels ends begins none empty = record {
  earlier = [];
  next = next_start source;
  placed = placed_none p labels begins none;
  none = tt;
  ends_are = empty;
  each = ap (λ (es : List ℕ). length es) empty;
}

pub numbering_step : (source rest line after : List ℕ) (number : ℕ) (p q : Position) (old new : Labels) (ends more : List ℕ)
    → length source ≤ SOURCE_LIMIT → lines_of rest ≡ line ∷ lines_of after → length after < length rest
    → ((earlier : List (List ℕ)) → IsPlaced earlier p old → IsPlaced (line ∷ earlier) q new)
    → ((earlier : List (List ℕ)) → IsPlaced earlier p old → code_of_said earlier (line_of line) ≡ None)
    → more ≡ ends ++ q.text_size ∷ []
    → Numbering source rest number p old ends → Numbering source after (number + 1) q new more
numbering_step source rest line after number p q old new ends more fits cut shorter moves none pushed before =
    let placed = moves before.earlier before.placed in
    record {
      earlier = line ∷ before.earlier;
      next = next_step source rest line after number before.earlier cut shorter before.next;
      placed = placed;
      none = (early_none (length source) before.earlier line fits (none before.earlier before.placed), before.none);
      ends_are = rw (pushed, before.ends_are, placed.position_is.text_is) (sym (ends_next line before.earlier));
      each = ap (λ (es : List ℕ). length es) pushed ∙ length-append ends (q.text_size ∷ []) ∙ ap (λ (n : ℕ). n + 1) before.each ∙ add-one (length before.earlier);
    }

pub numbering_fault : (source rest line after : List ℕ) (number : ℕ) (p : Position) (labels : Labels) (ends : List ℕ) (code : AsmCode)
    → lines_of rest ≡ line ∷ lines_of after
    → ((earlier : List (List ℕ)) → IsPlaced earlier p labels → code_of_said earlier (line_of line) ≡ Some code)
    → Numbering source rest number p labels ends → IsFirst (early_code (length source)) (lines_of source) (record { line = number; code = code })
numbering_fault source rest line after number p labels ends code cut has before =
    next_first (early_code (length source)) source rest line after number before.earlier code cut
    (early_some (length source) before.earlier line code (has before.earlier before.placed)) before.none before.next

pub numbering_end : (source rest : List ℕ) (number : ℕ) (p : Position) (labels : Labels) (ends : List ℕ) → rest ≡ []
    → Numbering source rest number p labels ends → ends ≡ text_ends (lines_back source)
numbering_end source rest number p labels ends empty now =
    now.ends_are ∙ ap (λ (lines : List (List ℕ)). text_ends lines) (next_end source rest number now.earlier empty now.next)

pub numbering_few : (source rest : List ℕ) (number : ℕ) (p : Position) (labels : Labels) (ends : List ℕ) → length source ≤ SOURCE_LIMIT
    → Numbering source rest number p labels ends → length ends ≤ SOURCE_LIMIT
numbering_few source rest number p labels ends fits now =
    let each = now.each in
    let number_is = now.next.number_is in
    let counted = now.next.counted in
    omega arith
