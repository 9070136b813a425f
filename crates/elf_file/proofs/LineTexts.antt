-- Texts of a line table.
use Rattle.std.proofs.Common.{◌≡◌, ◌∙◌, ◌+◌, ◌-◌, ◌<◌, ◌≤◌, ◌==◌, not, ℕ, Bool, true, false, cond, List, length, get_or, take, drop, refl, sym, ap, arith, inl, inr, Option, Some, None, option_map, eq-eqb, ne_eqb}
use Rattle.std.proofs.lemmas.Bool.{cases_lt, le-ltb, lt-ltb, true≢false}
use Rattle.std.proofs.lemmas.List.{drop-take, get_or-drop, length-drop, length-take, take-take, take_all}
use Rattle.std.proofs.lemmas.List.Sums.{fails_before_first, position_or_len_is}
use Rattle.std.proofs.lemmas.Option.{cond_some}
use Rattle.std.proofs.Math.Path.{fun_ext}
use Rattle.std.specs.List.{position, position_or_len}
use Rattle.std.specs.Prelude.{nat_lt}
use Rattle.elf_file.specs.Sections.{text_at}
use Rattle.elf_file.specs.Texts.{first_text, next_text, text_from}
use Rattle.elf_file.proofs.Texts.{prefix_len-take}

-- a text, and the bytes behind it
abbrev pub found : List ℕ → List ℕ → Option (List ℕ × List ℕ)
found text rest = Some (text, rest)

-- where the first zero stands
abbrev zero_place : List ℕ → ℕ
zero_place bytes = position_or_len (λ byte. byte == 0) bytes

-- ---- the text that bytes begin with

pub first_text_ends : (bytes : List ℕ) (end : ℕ) → Some end ≡ position (λ byte. byte == 0) bytes → take end bytes ≡ first_text bytes
first_text_ends bytes end is =
    ap (λ (n : ℕ). take n bytes) (sym (cond_some (nat_lt (zero_place bytes) (length bytes)) (zero_place bytes) end (sym is)).1)

all_by : (b : Bool) (n : ℕ) (bytes : List ℕ) → nat_lt n (length bytes) ≡ b → None ≡ cond b (Some n) None → bytes ≡ take n bytes
all_by true n bytes e is = absurd cc
all_by false n bytes e is =
    elim (cases_lt n (length bytes)) [
      | inl less ↦ absurd (true≢false (sym (lt-ltb n (length bytes) less) ∙ e))
      | inr past ↦ sym (take_all n bytes past)
    ]

pub first_text_is_all : (bytes : List ℕ) → None ≡ position (λ byte. byte == 0) bytes → bytes ≡ first_text bytes
first_text_is_all bytes is = all_by (nat_lt (zero_place bytes) (length bytes)) (zero_place bytes) bytes refl is

-- that of bytes with a zero is the next text
open_by : (b : Bool) (n : ℕ) (bytes text rest : List ℕ)
    → found text rest ≡ option_map (λ (end : ℕ). (take end bytes, drop (end + 1) bytes)) (cond b (Some n) None)
    → found (take n bytes) rest ≡ option_map (λ (end : ℕ). (take end bytes, drop (end + 1) bytes)) (cond b (Some n) None)
open_by true n bytes text rest is = ap (option_map (λ (t : List ℕ × List ℕ). (take n bytes, t.1))) is
open_by false n bytes text rest is = ap (option_map (λ (t : List ℕ × List ℕ). (take n bytes, t.1))) is

pub open_text : (bytes text rest : List ℕ) → found text rest ≡ next_text bytes → found (first_text bytes) rest ≡ next_text bytes
open_text bytes text rest is = open_by (nat_lt (zero_place bytes) (length bytes)) (zero_place bytes) bytes text rest is

-- ---- the texts of a string table

-- what has been seen of the zeros among the first bytes, the last of which stands before `end`
pub record IsLastZero (strings : List ℕ) (end index : ℕ) : Type 0 where
  pub within : end ≤ index
  pub zero_before : 0 < end → get_or strings (end - 1) 0 ≡ 0
  pub none_behind : (k : ℕ) → end ≤ k → k < index → (get_or strings k 0 == 0) ≡ false

place_by : (n size : ℕ) (bytes : List ℕ) → length bytes ≡ size → n < size
    → option_map (λ (end : ℕ). take end bytes) (cond (nat_lt n (length bytes)) (Some n) None) ≡ Some (take n bytes)
place_by n size bytes long less =
    ap (λ (b : Bool). option_map (λ (end : ℕ). take end bytes) (cond b (Some n) None)) (lt-ltb n (length bytes) (omega arith))

no_place_by : (n : ℕ) (bytes : List ℕ) → length bytes ≤ n
    → option_map (λ (end : ℕ). take end bytes) (cond (nat_lt n (length bytes)) (Some n) None) ≡ None
no_place_by n bytes past =
    ap (λ (b : Bool). option_map (λ (end : ℕ). take end bytes) (cond b (Some n) None)) (le-ltb n (length bytes) past)

-- a zero among so many bytes isn't behind the first
zero_near : (bytes : List ℕ) (k : ℕ) → get_or bytes k 0 ≡ 0 → zero_place bytes ≤ k
zero_near bytes k is =
    elim (cases_lt k (zero_place bytes)) [
      | inl less ↦ absurd (true≢false (sym (eq-eqb (get_or bytes k 0) 0 is) ∙ fails_before_first (λ byte. byte == 0) bytes k 0 less))
      | inr near ↦ near
    ]

-- a text that begins before the last zero
text_before : (strings : List ℕ) (end at : ℕ) → end ≤ length strings → at < end → get_or strings (end - 1) 0 ≡ 0
    → text_from (take end strings) at ≡ text_at strings at
text_before strings end at within less zero =
    let rest : List ℕ = drop at strings in
    let n : ℕ = zero_place rest in
    let size : ℕ = end - at in
    let sum : at + size ≡ end = omega arith in
    let there : get_or rest (size - 1) 0 ≡ 0 =
    get_or-drop at strings (size - 1) 0 ∙ ap (λ (k : ℕ). get_or strings k 0) (omega arith) ∙ zero in
    let near : n ≤ size - 1 = zero_near rest (size - 1) there in
    let cut : drop at (take end strings) ≡ take size rest =
    ap (λ (k : ℕ). drop at (take k strings)) (sym sum) ∙ drop-take at size strings in
    let same : zero_place (take size rest) ≡ n = prefix_len-take (λ byte. not (byte == 0)) size rest ∙ omega arith in
    let long : length (take end strings) ≡ end = length-take end strings ∙ omega arith in
    let left : text_from (take end strings) at ≡ Some (take n rest) =
    ap (λ (b : Bool). cond b (Some (first_text (drop at (take end strings)))) None) (lt-ltb at (length (take end strings)) (omega (arith, long)))
    ∙ ap (λ (bytes : List ℕ). Some (first_text bytes)) cut
    ∙ ap (λ (k : ℕ). Some (take k (take size rest))) same
    ∙ ap (λ (bytes : List ℕ). Some bytes) (take-take n size rest (omega arith)) in
    left ∙ sym (place_by n (length strings - at) rest (length-drop at strings) (omega arith))

-- and one that begins behind it
no_text_behind : (strings : List ℕ) (end at : ℕ) → end ≤ length strings → end ≤ at
    → ((k : ℕ) → end ≤ k → k < length strings → (get_or strings k 0 == 0) ≡ false)
    → text_from (take end strings) at ≡ text_at strings at
no_text_behind strings end at within behind none =
    let rest : List ℕ = drop at strings in
    let long : length (take end strings) ≡ end = length-take end strings ∙ omega arith in
    let size : length rest ≡ length strings - at = length-drop at strings in
    let fails : (k : ℕ) → k < length rest → (get_or rest k 0 == 0) ≡ false =
    λ k less. ap (λ (byte : ℕ). byte == 0) (get_or-drop at strings k 0) ∙ none (at + k) (omega arith) (omega arith) in
    let all : zero_place rest ≡ length rest =
    position_or_len_is (λ byte. byte == 0) rest (length rest) 0 (omega arith) fails (λ less. absurd (omega arith)) in
    ap (λ (b : Bool). cond b (Some (first_text (drop at (take end strings)))) None) (le-ltb at (length (take end strings)) (omega arith))
    ∙ sym (no_place_by (zero_place rest) rest (omega arith))

pub same_texts : (strings : List ℕ) (end index : ℕ) → length strings ≤ index → index ≤ length strings → IsLastZero strings end index
    → text_from (take end strings) ≡ text_at strings
same_texts strings end index past upto last =
    let within : end ≤ length strings = omega (arith, last.within) in
    fun_ext (λ (at : ℕ). elim (cases_lt at end) [
      | inl less ↦ text_before strings end at within less (last.zero_before (omega arith))
      | inr behind ↦ no_text_behind strings end at within behind (λ k from less. last.none_behind k from (omega arith))
    ])

pub first_byte : (strings : List ℕ) → IsLastZero strings 0 0
first_byte strings = record {
  within = omega arith;
  zero_before = λ less. absurd (omega arith);
  none_behind = λ k from less. absurd (omega arith);
}

pub zero_seen : (strings : List ℕ) (end index : ℕ) → get_or strings index 0 ≡ 0 → IsLastZero strings end index
    → IsLastZero strings (index + 1) (index + 1)
zero_seen strings end index zero last = record {
  within = omega arith;
  zero_before = λ _. ap (λ (k : ℕ). get_or strings k 0) (omega arith) ∙ zero;
  none_behind = λ k from less. absurd (omega arith);
}

pub other_seen : (strings : List ℕ) (end index : ℕ) → (get_or strings index 0 ≡ 0 → ⊥) → IsLastZero strings end index
    → IsLastZero strings end (index + 1)
other_seen strings end index other last = record {
  within = omega (arith, last.within);
  zero_before = last.zero_before;
  none_behind = λ k from less. elim (cases_lt k index) [
    | inl before ↦ last.none_behind k from before
    | inr here ↦ ap (λ (i : ℕ). get_or strings i 0 == 0) (omega arith) ∙ ne_eqb (get_or strings index 0) 0 other
  ];
}
