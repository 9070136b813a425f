-- A walk from page to page, and where the entries on it lie.
use Rattle.std.proofs.Common.{◌≡◌, ℕ, zero, suc, ◌+◌, ◌-◌, ◌*◌, ◌/◌, ◌%◌, ◌<◌, ◌≤◌, true, false, ◌&&◌, leb, ltb, eqb, List, [], ◌∷◌, ◌++◌, refl, sym, ap, ◌∙◌, append_assoc, arith, inl, inr}
use Rattle.std.proofs.lemmas.List.{append-nil}
use Rattle.std.proofs.lemmas.List.Elements.{All-append}
use Rattle.std.proofs.Math.Nat.{div-le_of_le-mul}
use Rattle.nova_log.proofs.Questions.{numbers_mapped}
use Rattle.std.proofs.lemmas.Bool.{cases_Bool, and_parts, leb-true, ltb-true, eqb-true}
use Rattle.std.proofs.lemmas.List.FromFn.{get_or-map-range_with_len, length-map-range_with_len}
use Rattle.std.specs.List.{All}
use Rattle.line_memory.specs.Lines.{line_at}
use Rattle.nova_log.specs.Chains.{chain, ends_in, entries_before, is_page, link_fault, link_of, link_position, link_questions, positions_in}
use Rattle.nova_log.specs.Layouts.{IsShape, page_at, shape_of}
use Rattle.nova_log.specs.Questions.{Question, question}
use Rattle.nova_log.specs.declared.layout.Layout.{Layout}
use Rattle.nova_log.specs.declared.layout.Layout.TheVariants.{One, Two}
use Rattle.nova_log.specs.declared.layout.Shape.{Shape}

pub shape_is : (layout : Layout) → IsShape (shape_of layout)
shape_is One = record { some_bytes = omega arith; link = omega arith; entry = λ k h. omega arith; name = omega arith }
shape_is Two = record { some_bytes = omega arith; link = omega arith; entry = λ k h. omega arith; name = omega arith }

-- a page lies after the first 16 KB and wholly before the end of all pages
pub page_room : (pages page : ℕ) → is_page pages page ≡ true → page + 4096 ≤ page_at pages
page_room pages page e =
    let h = and_parts (leb (page_at 0) page && ltb page (page_at pages)) (eqb (page % 4096) 0) e in
    let k = and_parts (leb (page_at 0) page) (ltb page (page_at pages)) h.0 in
    let below = ltb-true page (page_at pages) k.1 in
    let whole = eqb-true (page % 4096) 0 h.1 in
    omega arith

-- a walk's page, where the tail is in it, and where it isn't
pub chain_ended : (s : Shape) (lines : List (List ℕ)) (tail more page : ℕ) → 1 ≤ more → ends_in s tail page ≡ true →
    chain s lines tail more page ≡ positions_in s page (entries_before s tail page)
unfolding chain
chain_ended s lines tail zero page some e = absurd (omega arith)
chain_ended s lines tail (suc more) page some e = rw e (append-nil (positions_in s page ((tail - page) / s.entry_size)))

pub chain_goes : (s : Shape) (lines : List (List ℕ)) (tail more page link : ℕ) → 1 ≤ more → ends_in s tail page ≡ false → link ≡ link_of s lines page →
    chain s lines tail more page ≡ positions_in s page (entries_before s tail page) ++ chain s lines tail (more - 1) link
unfolding chain
chain_goes s lines tail zero page link some e l = absurd (omega arith)
chain_goes s lines tail (suc more) page link some e l =
    let less : suc more - 1 ≡ more = omega arith in
    rw (less, l, e) refl

pub links_ended : (s : Shape) (pages : ℕ) (lines : List (List ℕ)) (tail more page : ℕ) → 1 ≤ more → ends_in s tail page ≡ true →
    link_questions s pages lines tail more page ≡ []
unfolding link_questions
links_ended s pages lines tail zero page some e = absurd (omega arith)
links_ended s pages lines tail (suc more) page some e = rw e refl

abbrev pub link_question : Shape → ℕ → List (List ℕ) → ℕ → ℕ → List Question
link_question s pages lines more page =
    question (link_position s page / 64) (link_fault pages more (line_at lines (link_position s page / 64))) ∷ []

pub links_go : (s : Shape) (pages : ℕ) (lines : List (List ℕ)) (tail more page link : ℕ) → 1 ≤ more → ends_in s tail page ≡ false → link ≡ link_of s lines page →
    link_questions s pages lines tail more page ≡ link_question s pages lines (more - 1) page ++ link_questions s pages lines tail (more - 1) link
unfolding link_questions
links_go s pages lines tail zero page link some e l = absurd (omega arith)
links_go s pages lines tail (suc more) page link some e l =
    let less : suc more - 1 ≡ more = omega arith in
    rw (less, l, e) refl

pub walk_goes : (s : Shape) (lines : List (List ℕ)) (tail more page link : ℕ) (whole old new : List ℕ) → 1 ≤ more → ends_in s tail page ≡ false →
    link ≡ link_of s lines page → whole ≡ old ++ chain s lines tail more page → new ≡ old ++ positions_in s page (entries_before s tail page) →
    whole ≡ new ++ chain s lines tail (more - 1) link
walk_goes s lines tail more page link whole old new some e l h k =
    h ∙ ap (λ (rest : List ℕ). old ++ rest) (chain_goes s lines tail more page link some e l)
    ∙ sym (append_assoc old (positions_in s page (entries_before s tail page)) (chain s lines tail (more - 1) link))
    ∙ ap (λ (front : List ℕ). front ++ chain s lines tail (more - 1) link) (sym k)

-- a page's entries, one by one
pub positions_pushed : (s : Shape) (page k : ℕ) (start old new : List ℕ) → old ≡ start ++ positions_in s page k → new ≡ old ++ (page + s.entry_size * k) ∷ [] →
    new ≡ start ++ positions_in s page (k + 1)
positions_pushed s page k start old new h e =
    let same : 0 + k ≡ k = omega arith in
    e ∙ ap (λ (items : List ℕ). items ++ (page + s.entry_size * k) ∷ []) h
    ∙ append_assoc start (positions_in s page k) ((page + s.entry_size * k) ∷ [])
    ∙ ap (λ (rest : List ℕ). start ++ rest) (numbers_mapped (λ (i : ℕ). page + s.entry_size * i) 0 k k (positions_in s page k) (page + s.entry_size * k) same refl refl)

-- the entries of a page lie in it, and so does the line after each
pub positions_room : (s : Shape) (pages page count : ℕ) → IsShape s → page + 4096 ≤ page_at pages → count ≤ s.page_entries →
    All (λ position. position + 128 ≤ page_at pages) (positions_in s page count)
positions_room s pages page count shape room few k d less =
    let same : 0 + k ≡ k = omega arith in
    let below : k < count = omega (arith, length-map-range_with_len (λ (i : ℕ). page + s.entry_size * i) 0 count) in
    let fits = shape.entry k (omega arith) in
    rw (get_or-map-range_with_len (λ (i : ℕ). page + s.entry_size * i) 0 count k k d below same) (omega arith)

entries_few : (s : Shape) (tail page : ℕ) → IsShape s → entries_before s tail page ≤ s.page_entries
entries_few s tail page shape = elim (cases_Bool (ends_in s tail page)) [
  | inl e ↦
      let h = and_parts (leb page tail && leb tail (link_position s page)) (eqb ((tail - page) % s.entry_size) 0) e in
      let k = and_parts (leb page tail) (leb tail (link_position s page)) h.0 in
      let below = leb-true tail (link_position s page) k.1 in
      let within : tail - page ≤ s.entry_size * s.page_entries = omega arith in
      rw e (div-le_of_le-mul s.entry_size within)
  | inr e ↦ rw e (omega arith)
]

pub walk_room : (s : Shape) (pages tail page : ℕ) (old new : List ℕ) → IsShape s → is_page pages page ≡ true →
    All (λ position. position + 128 ≤ page_at pages) old → new ≡ old ++ positions_in s page (entries_before s tail page) →
    All (λ position. position + 128 ≤ page_at pages) new
walk_room s pages tail page old new shape page_is h e =
    rw e (All-append (λ (position : ℕ). position + 128 ≤ page_at pages) old (positions_in s page (entries_before s tail page)) h
    (positions_room s pages page (entries_before s tail page) shape (page_room pages page page_is) (entries_few s tail page shape)))
