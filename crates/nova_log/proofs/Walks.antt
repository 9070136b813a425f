-- A chain without a fault is a walk, step by step, and the only one.
use Rattle.std.proofs.Common.{◌≡◌, ◌≢◌, ℕ, zero, suc, ◌+◌, ◌-◌, ◌*◌, ◌/◌, ◌%◌, ◌<◌, ◌≤◌, true, false, ◌&&◌, leb, ltb, eqb, List, [], ◌∷◌, ◌++◌, map, refl, sym, ap, ◌∙◌, append_assoc, true≢false, arith, inl, inr, None}
use Rattle.std.proofs.lemmas.Bool.{cases_Bool, and_parts, leb-true, ltb-true, eqb-true, le-leb, eq-eqb, eqb-false, lt-ltb}
use Rattle.std.proofs.lemmas.List.{append-nil}
use Rattle.std.proofs.Math.Nat.{div-add-mod, div-le_of_le-mul, mul-div_cancel_left, mul-le-mul_left, mul-lt-mul_of_pos_left, mul-mod_right}
use Rattle.std.specs.List.{range_with_len}
use Rattle.line_memory.specs.Lines.{line_at}
use Rattle.word_bits.specs.Bytes.{loaded}
use Rattle.nova_log.specs.Chains.{chain, ends_in, is_page, link_fault, link_of, link_position, link_questions, positions_in}
use Rattle.nova_log.specs.Questions.{first_fault}
use Rattle.nova_log.specs.Walks.{IsWalk, ended, entry, link, position_at}
use Rattle.nova_log.proofs.Questions.{or_none}
use Rattle.nova_log.proofs.Chains.{chain_ended, chain_goes, link_question, links_ended, links_go, positions_pushed}
use Rattle.nova_log.specs.declared.layout.Shape.{Shape}

module _ (s : Shape) (pages : ℕ) (lines : List (List ℕ)) (tail : ℕ) where
  -- entries in a row
  run : (more page n k : ℕ) (rest : List ℕ) → k + n ≤ s.page_entries → ((i : ℕ) → i < k + n → position_at s page i ≢ tail) →
      IsWalk s pages lines tail more page (k + n) rest →
      IsWalk s pages lines tail more page k (map (λ i. page + s.entry_size * i) (range_with_len k n) ++ rest)
  run more page zero k rest few none h = let e : k + 0 ≡ k = omega arith in rw e at h
  run more page (suc n) k rest few none h =
      let e : k + suc n ≡ k + 1 + n = omega arith in
      entry more page k (map (λ i. page + s.entry_size * i) (range_with_len (k + 1) n) ++ rest) (omega arith) (none k (omega arith))
      (run more page n (k + 1) rest (omega arith) (λ i less. none i (omega arith)) (rw e at h))

  link_none : (more : ℕ) (line : List ℕ) → link_fault pages more line ≡ None → (is_page pages (loaded line 0 8) ≡ true) × (1 ≤ more)
  unfolding link_fault
  link_none more line e = elim (cases_Bool (eqb (loaded line 0 8) 0)) [
    | inl zero_link ↦ let h = rw zero_link at e in absurd (cc)
    | inr some ↦ elim (cases_Bool (is_page pages (loaded line 0 8) && ltb 0 more)) [
      | inl good ↦ let parts = and_parts (is_page pages (loaded line 0 8)) (ltb 0 more) good in (parts.0, ltb-true 0 more parts.1)
      | inr bad ↦ let h = rw (some, bad) at e in absurd (cc)
    ]
  ]

  -- the page with the tail
  tail_entry : (page : ℕ) → ends_in s tail page ≡ true →
      (page + s.entry_size * ((tail - page) / s.entry_size) ≡ tail) × ((tail - page) / s.entry_size ≤ s.page_entries)
  tail_entry page e =
      let h = and_parts (leb page tail && leb tail (link_position s page)) (eqb ((tail - page) % s.entry_size) 0) e in
      let k = and_parts (leb page tail) (leb tail (link_position s page)) h.0 in
      let from = leb-true page tail k.0 in
      let to = leb-true tail (link_position s page) k.1 in
      let whole = eqb-true ((tail - page) % s.entry_size) 0 h.1 in
      let parts = div-add-mod (tail - page) s.entry_size in
      let within : tail - page ≤ s.entry_size * s.page_entries = omega arith in
      (omega arith, div-le_of_le-mul s.entry_size within)

  last_page : (more page : ℕ) → 1 ≤ s.entry_size → ends_in s tail page ≡ true →
      IsWalk s pages lines tail more page 0 (positions_in s page ((tail - page) / s.entry_size))
  last_page more page some e =
      let q = (tail - page) / s.entry_size in
      let at_tail = tail_entry page e in
      let same : 0 + q ≡ q = omega arith in
      let pos : zero < s.entry_size = omega arith in
      let none : (i : ℕ) → i < 0 + q → position_at s page i ≢ tail = λ i less here.
      let lower : i < q = omega arith in
      let below : s.entry_size * i < s.entry_size * q = mul-lt-mul_of_pos_left lower pos in
      omega arith in
      let end : IsWalk s pages lines tail more page (0 + q) [] = rw same (ended more page q at_tail.1 at_tail.0) in
      let all = run more page q 0 [] (omega arith) none end in
      rw (append-nil (map (λ (i : ℕ). page + s.entry_size * i) (range_with_len 0 q))) at all

  ends_here : (page i : ℕ) → i ≤ s.page_entries → position_at s page i ≡ tail → ends_in s tail page ≡ true
  ends_here page i few here =
      let most : s.entry_size * i ≤ s.entry_size * s.page_entries = mul-le-mul_left s.entry_size few in
      let from : page ≤ tail = omega arith in
      let to : tail ≤ link_position s page = omega arith in
      let inside : tail - page ≡ s.entry_size * i = omega arith in
      let whole : (tail - page) % s.entry_size ≡ 0 = rw inside (mul-mod_right s.entry_size i) in
      rw (le-leb page tail from, le-leb tail (link_position s page) to, eq-eqb ((tail - page) % s.entry_size) 0 whole) refl

  -- a page without it
  not_here : (page i : ℕ) → ends_in s tail page ≡ false → i ≤ s.page_entries → position_at s page i ≢ tail
  not_here page i e few here = true≢false (sym (ends_here page i few here) ∙ e)

  no_end : (page : ℕ) → ((i : ℕ) → i ≤ s.page_entries → position_at s page i ≢ tail) → ends_in s tail page ≡ false
  no_end page none = elim (cases_Bool (ends_in s tail page)) [
    | inl e ↦ let at_tail = tail_entry page e in absurd (none ((tail - page) / s.entry_size) at_tail.1 at_tail.0)
    | inr e ↦ e
  ]

  full_page : (more page : ℕ) (rest : List ℕ) → ends_in s tail page ≡ false → is_page pages (link_of s lines page) ≡ true →
      IsWalk s pages lines tail more (link_of s lines page) 0 rest → IsWalk s pages lines tail (suc more) page 0 (positions_in s page s.page_entries ++ rest)
  full_page more page rest e good h =
      let same : 0 + s.page_entries ≡ s.page_entries = omega arith in
      let here : IsWalk s pages lines tail (suc more) page (0 + s.page_entries) rest =
      rw same (link more page s.page_entries rest refl (not_here page s.page_entries e (omega arith)) good h) in
      run (suc more) page s.page_entries 0 rest (omega arith) (λ i less. not_here page i e (omega arith)) here

  -- no fault at a page without the tail: a good link, and no fault further on
  goes_on : (more page : ℕ) → ends_in s tail page ≡ false → first_fault (link_questions s pages lines tail (suc more) page) ≡ None →
      (is_page pages (link_of s lines page) ≡ true) × (1 ≤ more) × (first_fault (link_questions s pages lines tail more (link_of s lines page)) ≡ None)
  goes_on more page e clean =
      let some : 1 ≤ suc more = omega arith in
      let less : suc more - 1 ≡ more = omega arith in
      let goes : first_fault (link_question s pages lines more page ++ link_questions s pages lines tail more (link_of s lines page)) ≡ None =
      rw (links_go s pages lines tail (suc more) page (link_of s lines page) some e refl, less) at clean in
      let both = or_none (link_fault pages more (line_at lines (link_position s page / 64))) (first_fault (link_questions s pages lines tail more (link_of s lines page))) goes in
      let good = link_none more (line_at lines (link_position s page / 64)) both.0 in
      (good.0, good.1, both.1)

  here_ends : (more page : ℕ) → 1 ≤ s.entry_size → ends_in s tail page ≡ true → IsWalk s pages lines tail more page 0 (chain s lines tail (suc more) page)
  here_ends more page some e =
      let one : 1 ≤ suc more = omega arith in
      rw (chain_ended s lines tail (suc more) page one e, e) (last_page more page some e)

  pub is_walk : (more page : ℕ) → 1 ≤ s.entry_size → first_fault (link_questions s pages lines tail (suc more) page) ≡ None →
      IsWalk s pages lines tail more page 0 (chain s lines tail (suc more) page)
  is_walk zero page some clean = elim (cases_Bool (ends_in s tail page)) [
    | inl e ↦ here_ends zero page some e
    | inr e ↦ let next = goes_on zero page e clean in absurd (omega arith)
  ]
  is_walk (suc more) page some clean = elim (cases_Bool (ends_in s tail page)) [
    | inl e ↦ here_ends (suc more) page some e
    | inr e ↦
        let next = goes_on (suc more) page e clean in
        let one : 1 ≤ suc (suc more) = omega arith in
        let less : suc (suc more) - 1 ≡ suc more = omega arith in
        rw (chain_goes s lines tail (suc (suc more)) page (link_of s lines page) one e refl, less, e)
        (full_page more page (chain s lines tail (suc more) (link_of s lines page)) e next.0 (is_walk more (link_of s lines page) some next.2))
  ]

  -- a walk from line k of a page, none of whose lines before is the tail: no link on it has a fault, and the chain is what it comes to
  link_good : (more page : ℕ) → is_page pages (link_of s lines page) ≡ true → link_fault pages (suc more) (line_at lines (link_position s page / 64)) ≡ None
  unfolding link_fault
  link_good more page good = elim (cases_Bool (eqb (link_of s lines page) 0)) [
    | inl e ↦ let zero_link = eqb-true (link_of s lines page) 0 e in let h = rw zero_link at good in absurd (cc)
    | inr some ↦ let more_left : 0 < suc more = omega arith in rw (some, good, lt-ltb 0 (suc more) more_left) refl
  ]

  one_more : (page k : ℕ) → ((i : ℕ) → i < k → position_at s page i ≢ tail) → position_at s page k ≢ tail →
      (i : ℕ) → i < k + 1 → position_at s page i ≢ tail
  one_more page k none here i less = elim (cases_Bool (eqb i k)) [
    | inl e ↦ let same = eqb-true i k e in rw same here
    | inr e ↦ let other = eqb-false i k e in none i (omega arith)
  ]

  pub only_walk : {more page k : ℕ} {entries : List ℕ} → IsWalk s pages lines tail more page k entries →
      ((i : ℕ) → i < k → position_at s page i ≢ tail) → 1 ≤ s.entry_size →
      (first_fault (link_questions s pages lines tail (suc more) page) ≡ None) × (positions_in s page k ++ entries ≡ chain s lines tail (suc more) page)
  only_walk (ended more page k few here) none some =
      let e = ends_here page k few here in
      let one : 1 ≤ suc more = omega arith in
      let pos : zero < s.entry_size = omega arith in
      let inside : tail - page ≡ s.entry_size * k = omega arith in
      let whole : (tail - page) / s.entry_size ≡ k = rw inside (mul-div_cancel_left k pos) in (
        rw (links_ended s pages lines tail (suc more) page one e) refl,
        append-nil (positions_in s page k) ∙ sym (chain_ended s lines tail (suc more) page one e ∙ rw (e, whole) refl),
      )
  only_walk (entry more page k entries few here walk) none some =
      let rest = only_walk walk (one_more page k none here) some in (
        rest.0,
        sym (append_assoc (positions_in s page k) ((page + s.entry_size * k) ∷ []) entries)
            ∙ ap (λ (front : List ℕ). front ++ entries) (positions_pushed s page k [] (positions_in s page k) (positions_in s page k ++ (page + s.entry_size * k) ∷ []) refl refl)
            ∙ rest.1,
      )
  only_walk (link more page k entries last here good walk) none some =
      let rest = only_walk walk (λ i less. absurd (omega arith)) some in
      let e = no_end page (λ i few. one_more page k none here i (omega arith)) in
      let one : 1 ≤ suc (suc more) = omega arith in
      let less : suc (suc more) - 1 ≡ suc more = omega arith in (
        rw (links_go s pages lines tail (suc (suc more)) page (link_of s lines page) one e refl, less, link_good more page good) rest.0,
        rw (chain_goes s lines tail (suc (suc more)) page (link_of s lines page) one e refl, less, e, last)
            (ap (λ (later : List ℕ). positions_in s page s.page_entries ++ later) rest.1),
      )
