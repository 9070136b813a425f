-- Cells that are filled, while full ones are passed over.
use Rattle.std.proofs.Common.{◌≡◌, ◌∙◌, ◌+◌, ◌<◌, ◌≤◌, ◌&&◌, min, ℕ, Bool, true, false, List, [], ◌∷◌, ◌++◌, length, get_or, set, refl, sym, ap, subst, arith, inl, inr, Option, Some, None, is_some, unwrap_or, get_or-set_other, get_or-set_same}
use Rattle.std.proofs.Math.Nat.{min-eq_left, min-eq_right, min-le_left, le-min}
use Rattle.std.proofs.lemmas.Bool.{and_from, and_parts, cases_eq, cases_lt, le-leb, leb-true, lt-ltb, ltb-true}
use Rattle.std.proofs.lemmas.List.{get_or_append_left, get_or_push, length_push, length-set}
use Rattle.std.specs.Bool.{then_some}
use Rattle.std.specs.Option.{option_or}
use Rattle.std.specs.Prelude.{nat_le, nat_lt}
use Rattle.elf_file.specs.Lines.{filled}
use Rattle.elf_file.specs.Skips.{AreAhead, AreFull, AreSkips, OwnPlaces, SkipFull}
use Rattle.elf_file.proofs.Filling.{none_more, one_filled, one_between, others_between, not_yet}

-- ---- full cells

pub none_full : (cells : List (Option ℕ)) (at : ℕ) → AreFull cells at at
none_full cells at k from less = absurd (omega arith)

both_full : (cells : List (Option ℕ)) (first middle end : ℕ) → AreFull cells first middle → AreFull cells middle end → AreFull cells first end
both_full cells first middle end front behind k from less = elim (cases_lt k middle) [ inl below ↦ front k from below | inr past ↦ behind k past less ]

-- a cell that gets a number is full, and the others stay so
still_full : (cells : List (Option ℕ)) (at number first end : ℕ) → at < length cells → AreFull cells first end
    → AreFull (set cells at (Some number)) first end
still_full cells at number first end within full k from less =
    elim (cases_eq k at) [
      | inl same ↦
          let here : get_or (set cells at (Some number)) k None ≡ Some number =
          subst (λ (w : ℕ). get_or (set cells at (Some number)) w None ≡ Some number) (sym same) (get_or-set_same cells at (Some number) None within) in
          ap (λ (o : Option ℕ). is_some o) here
      | inr differs ↦ ap (λ (o : Option ℕ). is_some o) (get_or-set_other cells at k (Some number) None differs) ∙ full k from less
    ]

now_full : (cells : List (Option ℕ)) (at number : ℕ) → at < length cells → AreFull (set cells at (Some number)) at (at + 1)
now_full cells at number within k from less =
    let same : k ≡ at = omega arith in
    let here : get_or (set cells at (Some number)) k None ≡ Some number =
    subst (λ (w : ℕ). get_or (set cells at (Some number)) w None ≡ Some number) (sym same) (get_or-set_same cells at (Some number) None within) in
    ap (λ (o : Option ℕ). is_some o) here

-- ---- skips

pub own_skips : (cells : List (Option ℕ)) (skips : List ℕ) → OwnPlaces (length cells) skips → AreSkips cells skips
own_skips cells skips own = record {
  size = own.0;
  ahead = λ at less. let here : get_or skips at 0 ≡ at = own.1 at less in (omega (arith, here), omega (arith, here, less));
  full = λ at less.
      subst (λ (end : ℕ). AreFull cells at end) (sym (own.1 at less)) (none_full cells at);
}

-- a place that skips further
ahead_with : (skips : List ℕ) (at further : ℕ) → at ≤ further → further < length skips → AreAhead skips → AreAhead (set skips at further)
ahead_with skips at further from within ahead k less =
    let size : length (set skips at further) ≡ length skips = length-set skips at further in
    elim (cases_eq k at) [
      | inl same ↦
          let here : get_or (set skips at further) k 0 ≡ further =
          subst (λ (w : ℕ). get_or (set skips at further) w 0 ≡ further) (sym same) (get_or-set_same skips at further 0 (omega arith)) in
          (omega (arith, here, same), omega (arith, here, size))
      | inr differs ↦
          let here : get_or (set skips at further) k 0 ≡ get_or skips k 0 = get_or-set_other skips at k further 0 differs in
          let was = ahead k (omega (arith, less, size)) in
          (omega (arith, here, was.0), omega (arith, here, was.1, size))
    ]

full_with : (cells : List (Option ℕ)) (skips : List ℕ) (at further : ℕ) → at < length skips → AreFull cells at further → SkipFull cells skips
    → SkipFull cells (set skips at further)
full_with cells skips at further within full each k less =
    let size : length (set skips at further) ≡ length skips = length-set skips at further in
    elim (cases_eq k at) [
      | inl same ↦
          let here : get_or (set skips at further) at 0 ≡ further = get_or-set_same skips at further 0 within in
          subst (λ (w : ℕ). AreFull cells w (get_or (set skips at further) w 0)) (sym same)
          (subst (λ (end : ℕ). AreFull cells at end) (sym here) full)
      | inr differs ↦
          let here : get_or (set skips at further) k 0 ≡ get_or skips k 0 = get_or-set_other skips at k further 0 differs in
          subst (λ (end : ℕ). AreFull cells k end) (sym here) (each k (omega (arith, less, size)))
    ]

skips_with : (cells : List (Option ℕ)) (skips : List ℕ) (at further : ℕ) → at < length skips → at ≤ further → further < length skips
    → AreFull cells at further → AreSkips cells skips → AreSkips cells (set skips at further)
skips_with cells skips at further within from inside full are = record {
  size = length-set skips at further ∙ are.size;
  ahead = ahead_with skips at further from inside are.ahead;
  full = full_with cells skips at further within full are.full;
}

-- ---- the way from a place

pub record IsOnTheWay (first skips : List ℕ) (from at : ℕ) : Type 0 where
  pub behind : from ≤ at
  pub within : at < length skips
  pub ahead : AreAhead skips
  pub full : (cells : List (Option ℕ)) → AreSkips cells first → AreSkips cells skips × AreFull cells from at

pub way_begun : (skips : List ℕ) (from : ℕ) → from < length skips → AreAhead skips → IsOnTheWay skips skips from from
way_begun skips from within ahead = record { behind = omega arith; within = within; ahead = ahead; full = λ cells are. (are, none_full cells from) }

pub way_on : (first skips : List ℕ) (from at next further : ℕ) → next ≡ get_or skips at 0 → further ≡ get_or skips next 0 → IsOnTheWay first skips from at
    → IsOnTheWay first (set skips at further) from further
way_on first skips from at next further one two is =
    let near = is.ahead at is.within in
    let far = is.ahead next (omega (arith, one, near.1)) in
    let size : length (set skips at further) ≡ length skips = length-set skips at further in
    record {
      behind = omega (arith, is.behind, near.0, far.0, one, two);
      within = omega (arith, far.1, two, size);
      ahead = ahead_with skips at further (omega (arith, near.0, far.0, one, two)) (omega (arith, far.1, two)) is.ahead;
      full = λ cells are.
          let before = is.full cells are in
          let near_full : AreFull cells at next = subst (λ (end : ℕ). AreFull cells at end) (sym one) (before.0.full at is.within) in
          let far_full : AreFull cells next further =
          subst (λ (end : ℕ). AreFull cells next end) (sym two) (before.0.full next (omega (arith, one, near.1))) in
          let all : AreFull cells at further = both_full cells at next further near_full far_full in (
            skips_with cells skips at further is.within (omega (arith, near.0, far.0, one, two)) (omega (arith, far.1, two)) all before.0,
            both_full cells from at further before.1 all,
          );
    }

-- ---- filled up to a place

-- a full cell keeps its number
full_stays : (cell : Option ℕ) (b : Bool) (number : ℕ) → is_some cell ≡ true → cell ≡ option_or cell (then_some b number)
full_stays (Some own) b number full = refl
full_stays None b number full = absurd cc

stays_unless : (b : Bool) (cell : Option ℕ) (number : ℕ) → (b ≡ true → is_some cell ≡ true) → cell ≡ option_or cell (then_some b number)
stays_unless true cell number full = full_stays cell true number (full refl)
stays_unless false cell number full = none_more cell

within_parts : (first at other : ℕ) → (nat_le first other && nat_lt other at) ≡ true → (first ≤ other) × (other < at)
within_parts first at other e =
    let parts = and_parts (nat_le first other) (nat_lt other at) e in (leb-true first other parts.0, ltb-true other at parts.1)

full_filled : (cells : List (Option ℕ)) (first end at number other : ℕ) → end ≤ at → AreFull cells first at
    → get_or cells other None ≡ filled first end number other (get_or cells other None)
full_filled cells first end at number other few full =
    stays_unless (nat_le first other && nat_lt other end) (get_or cells other None) number (λ e.
    let parts = within_parts first end other e in full other parts.0 (omega (arith, parts.1, few)))

pub record IsFillingUp (before cells : List (Option ℕ)) (skips : List ℕ) (first end at number : ℕ) : Type 0 where
  pub from : first ≤ at
  pub within : at ≤ length cells
  pub size : length cells ≡ length before
  pub are : AreSkips cells skips
  pub each : (other : ℕ) → get_or cells other None ≡ filled first (min at end) number other (get_or before other None)

pub filling_begun : (cells : List (Option ℕ)) (skips : List ℕ) (first end at number : ℕ) → first ≤ at → at < length skips
    → AreSkips cells skips → AreFull cells first at → IsFillingUp cells cells skips first end at number
filling_begun cells skips first end at number from within are full = record {
  from = from;
  within = omega (arith, within, are.size);
  size = refl;
  are = are;
  each = λ other. full_filled cells first (min at end) at number other (min-le_left at end) full;
}

-- the cell at the place gets the number
one_each : (before cells : List (Option ℕ)) (first end at number : ℕ) → first ≤ at → at < end → at < length cells
    → ((other : ℕ) → get_or cells other None ≡ filled first at number other (get_or before other None))
    → (other : ℕ)
    → get_or (set cells at (Some (unwrap_or (get_or cells at None) number))) other None ≡ filled first (at + 1) number other (get_or before other None)
one_each before cells first end at number from less within each other =
    elim (cases_eq other at) [
      | inl same ↦
          let family : ℕ → Type 0 =
          λ (w : ℕ). get_or (set cells at (Some (unwrap_or (get_or cells at None) number))) w None ≡ filled first (at + 1) number w (get_or before w None) in
          let old : get_or cells at None ≡ get_or before at None = each at ∙ sym (not_yet first at number (get_or before at None)) in
          subst family (sym same)
          (get_or-set_same cells at (Some (unwrap_or (get_or cells at None) number)) None within
          ∙ ap (λ (o : Option ℕ). Some (unwrap_or o number)) old
          ∙ one_filled (get_or before at None) number
          ∙ sym (ap (λ (b : Bool). option_or (get_or before at None) (then_some b number)) (one_between first at from)))
      | inr differs ↦
          get_or-set_other cells at other (Some (unwrap_or (get_or cells at None) number)) None differs
          ∙ each other
          ∙ sym (ap (λ (b : Bool). option_or (get_or before other None) (then_some b number)) (others_between first at other differs))
    ]

-- and full cells behind it are passed over
passed_cell : (b c : Bool) (mine old : Option ℕ) (number : ℕ) → mine ≡ option_or old (then_some b number)
    → (b ≡ true → c ≡ true) → (c ≡ true → b ≡ false → is_some mine ≡ true) → mine ≡ option_or old (then_some c number)
passed_cell true c mine old number is grows full = is ∙ sym (ap (λ (t : Bool). option_or old (then_some t number)) (grows refl))
passed_cell false false mine old number is grows full = is
passed_cell false true mine old number is grows full =
    let same : mine ≡ old = is ∙ sym (none_more old) in
    same ∙ full_stays old true number (sym (ap (λ (o : Option ℕ). is_some o) same) ∙ full refl refl)

passed_each : (before cells : List (Option ℕ)) (first from at end number : ℕ) → from ≤ end → end ≤ at → AreFull cells from at
    → ((other : ℕ) → get_or cells other None ≡ filled first from number other (get_or before other None))
    → (other : ℕ) → get_or cells other None ≡ filled first end number other (get_or before other None)
passed_each before cells first from at end number few more full each other =
    passed_cell (nat_le first other && nat_lt other from) (nat_le first other && nat_lt other end) (get_or cells other None) (get_or before other None) number
    (each other)
    (λ e. let parts = within_parts first from other e in
    and_from (nat_le first other) (nat_lt other end) (le-leb first other parts.0) (lt-ltb other end (omega (arith, parts.1, few))))
    (λ e not_before.
    let parts = within_parts first end other e in
    let behind : from ≤ other = elim (cases_lt other from) [
      | inl less ↦
          let both : (nat_le first other && nat_lt other from) ≡ true =
          and_from (nat_le first other) (nat_lt other from) (le-leb first other parts.0) (lt-ltb other from less) in
          absurd cc
      | inr past ↦ past
    ] in
    full other behind (omega (arith, parts.1, more)))

pub filling_on : (before cells : List (Option ℕ)) (skips after : List ℕ) (first end at next number value : ℕ)
    → value ≡ unwrap_or (get_or cells at None) number → at < end → end ≤ length cells → at + 1 ≤ next → next < length after
    → AreSkips (set cells at (Some value)) after → AreFull (set cells at (Some value)) (at + 1) next
    → IsFillingUp before cells skips first end at number → IsFillingUp before (set cells at (Some value)) after first end next number
filling_on before cells skips after first end at next number value put less within from inside are full is =
    let more : List (Option ℕ) = set cells at (Some value) in
    let size : length more ≡ length cells = length-set cells at (Some value) in
    let here : min at end ≡ at = min-eq_left (omega (arith, less)) in
    let each : (other : ℕ) → get_or cells other None ≡ filled first at number other (get_or before other None) = λ other.
    is.each other ∙ ap (λ (n : ℕ). filled first n number other (get_or before other None)) here in
    let one : (other : ℕ) → get_or more other None ≡ filled first (at + 1) number other (get_or before other None) = λ other.
    ap (λ (v : ℕ). get_or (set cells at (Some v)) other None) put
    ∙ one_each before cells first end at number is.from less (omega (arith, less, within)) each other in
    record {
      from = omega (arith, is.from, from);
      within = omega (arith, inside, are.size, size);
      size = size ∙ is.size;
      are = are;
      each = passed_each before more first (at + 1) next (min next end) number (le-min from (omega (arith, less))) (min-le_left next end) full one;
    }

-- the skips with one further, when its cell is full
pub skip_one : (cells : List (Option ℕ)) (skips : List ℕ) (at number : ℕ) → at < length cells → AreSkips cells skips
    → AreSkips (set cells at (Some number)) (set skips at (at + 1))
skip_one cells skips at number within are =
    let size : length (set cells at (Some number)) ≡ length cells = length-set cells at (Some number) in
    let still : AreSkips (set cells at (Some number)) skips = record {
      size = are.size ∙ ap (λ (n : ℕ). n + 1) (sym size);
      ahead = are.ahead;
      full = λ k less. still_full cells at number k (get_or skips k 0) within (are.full k less);
    } in
    skips_with (set cells at (Some number)) skips at (at + 1) (omega (arith, within, are.size)) (omega arith) (omega (arith, within, are.size))
    (now_full cells at number within) still

pub filling_done : (before cells : List (Option ℕ)) (skips : List ℕ) (first end at number : ℕ) → end ≤ at
    → IsFillingUp before cells skips first end at number
    → (other : ℕ) → get_or cells other None ≡ filled first end number other (get_or before other None)
filling_done before cells skips first end at number past is other =
    is.each other ∙ ap (λ (n : ℕ). filled first n number other (get_or before other None)) (min-eq_right past)

-- ---- the first skips

pub record OwnSoFar (skips : List ℕ) (at : ℕ) : Type 0 where
  pub size : length skips ≡ at
  pub own : (k : ℕ) → k < length skips → get_or skips k 0 ≡ k

pub own_none : (skips : List ℕ) → skips ≡ [] → OwnSoFar skips 0
own_none skips none =
    let size : length skips ≡ 0 = ap (λ (l : List ℕ). length l) none in
    record { size = size; own = λ k less. absurd (omega (arith, less, size)) }

pub own_more : (skips more : List ℕ) (at : ℕ) → more ≡ skips ++ at ∷ [] → OwnSoFar skips at → OwnSoFar more (at + 1)
own_more skips more at is so_far =
    subst (λ (l : List ℕ). OwnSoFar l (at + 1)) (sym is) (record {
      size = length_push skips at ∙ (omega (arith, so_far.size));
      own = λ k less. elim (cases_lt k (length skips)) [
        | inl before ↦ get_or_append_left skips (at ∷ []) 0 k before ∙ so_far.own k before
        | inr past ↦
            let last : k ≡ length skips = omega (arith, less, past, length_push skips at) in
            get_or_push skips at 0 k (sym last) ∙ sym (last ∙ so_far.size)
      ];
    })

pub own_done : (skips : List ℕ) (at count : ℕ) → count + 1 ≤ at → at ≤ count + 1 → OwnSoFar skips at → OwnPlaces count skips
own_done skips at count past upto so_far = (omega (arith, so_far.size), so_far.own)

-- the same lists by other words
pub skips_of_slices : (cells others : List (Option ℕ)) (skips more : List ℕ) → others ≡ cells → more ≡ skips → AreSkips cells skips → AreSkips others more
skips_of_slices cells others skips more p q are =
    subst (λ (l : List (Option ℕ)). AreSkips l more) (sym p) (subst (λ (l : List ℕ). AreSkips cells l) (sym q) are)
