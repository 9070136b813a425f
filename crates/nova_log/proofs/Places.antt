-- The parts of the logs: each stands at its page, and the first ones at the pages of their inodes.
use Rattle.std.proofs.Common.{◌≡◌, ℕ, zero, suc, ◌+◌, ◌-◌, ◌<◌, ◌≤◌, true, false, eqb, List, Option, Some, length, get_or, map, slice_get, refl, sym, ap, ◌∙◌, true≢false, arith, inl, inr}
use Rattle.std.proofs.lemmas.Bool.{and_parts, cases_eq, cases_lt, eq-eqb, eqb-true, ne_eqb}
use Rattle.std.proofs.lemmas.List.{get_or_append_left, length-append}
use Rattle.std.proofs.lemmas.List.Elements.{All-append, All-nil, Contains-append_left, Contains-append_right}
use Rattle.std.proofs.lemmas.List.FromFn.{get_or-map-range_with_len, length-map-range_with_len}
use Rattle.std.proofs.lemmas.List.Sums.{fails_before_first, passes_at_first, position_or_len_is}
use Rattle.std.proofs.lemmas.Option.{slice_get-get_or}
use Rattle.std.specs.List.{All, Contains, flat_map, range_with_len}
use Rattle.std.specs.Option.{option_map, unwrap_or}
use Rattle.nova_log.specs.Logs.{log_of}
use Rattle.nova_log.specs.declared.volume.entry.Entry.{Entry}
use Rattle.nova_log.specs.Parts.{further_parts, is_part, page_count, page_of, part, parts_of}
use Rattle.nova_log.specs.declared.log_upgrade.parts.Part.{Part}

is_itself : (inode index : ℕ) → is_part inode index (part inode index) ≡ true
is_itself inode index = rw (eq-eqb inode inode refl, eq-eqb index index refl) refl

same_part : (p : Part) (inode index : ℕ) → p.inode ≡ inode → p.index ≡ index → p ≡ part inode index
same_part p inode index e f = rw (← e, ← f) refl

-- pieces in a row
contains_piece : {X : Type 0} (f : ℕ → List X) (a n m : ℕ) (x : X) → a ≤ m → m < a + n → Contains (f m) x → Contains (flat_map f (range_with_len a n)) x
contains_piece f a zero m x low high h = absurd (omega arith)
contains_piece {X} f a (suc n) m x low high h = elim (cases_eq m a) [
  | inl e ↦ Contains-append_left (f a) (flat_map f (range_with_len (a + 1) n)) x (rw e at h)
  | inr other ↦
      Contains-append_right (f a) (flat_map f (range_with_len (a + 1) n)) x (contains_piece f (a + 1) n m x (omega arith) (omega arith) h)
]

all_pieces : {X : Type 0} (P : X → Type 0) (f : ℕ → List X) (a n : ℕ) → ((m : ℕ) → a ≤ m → m < a + n → All P (f m)) → All P (flat_map f (range_with_len a n))
all_pieces P f a zero h = All-nil P
all_pieces {X} P f a (suc n) h =
    All-append P (f a) (flat_map f (range_with_len (a + 1) n)) (h a (omega arith) (omega arith))
    (all_pieces P f (a + 1) n (λ m low high. h m (omega arith) (omega arith)))

piece_fits : {X : Type 0} (f : ℕ → List X) (a n m : ℕ) → a ≤ m → m < a + n → length (f m) ≤ length (flat_map f (range_with_len a n))
piece_fits f a zero m low high = absurd (omega arith)
piece_fits {X} f a (suc n) m low high =
    let both = length-append (f a) (flat_map f (range_with_len (a + 1) n)) in
    elim (cases_eq m a) [
      | inl e ↦ rw e (omega (arith, both))
      | inr other ↦ let inner = piece_fits f (a + 1) n m (omega arith) (omega arith) in omega (arith, both)
    ]

module _ (logs : List (List Entry)) where
  first_parts : List Part
  first_parts = map (λ inode. part inode 0) (range_with_len 0 (length logs))

  rest_parts : List Part
  rest_parts = flat_map (further_parts logs) (range_with_len 0 (length logs))

  -- each part is there
  pub part_there : (n j : ℕ) → n < length logs → j < page_count (length (log_of logs n)) → Contains (parts_of logs) (part n j)
  unfolding parts_of first_parts rest_parts
  part_there n zero less few =
      Contains-append_left first_parts rest_parts (part n 0) (
        n,
        omega (arith, length-map-range_with_len (λ (inode : ℕ). part inode 0) 0 (length logs)),
        get_or-map-range_with_len (λ (inode : ℕ). part inode 0) 0 (length logs) n n (part n 0) less (omega arith),
      )
  part_there n (suc j) less few =
      let count = page_count (length (log_of logs n)) in
      let within : j < count - 1 = omega arith in
      let inner : Contains (further_parts logs n) (part n (suc j)) =
      (j, omega (arith, length-map-range_with_len (part n) 1 (count - 1)), get_or-map-range_with_len (part n) 1 (count - 1) j (suc j) (part n (suc j)) within (omega arith)) in
      Contains-append_right first_parts rest_parts (part n (suc j))
      (contains_piece (further_parts logs) 0 (length logs) n (part n (suc j)) (omega arith) (omega arith) inner)

  -- its page has it
  pub page_below : (n j : ℕ) → n < length logs → j < page_count (length (log_of logs n)) → page_of (parts_of logs) n j < length (parts_of logs)
  page_below n j less few =
      let h = part_there n j less few in
      elim (cases_lt (page_of (parts_of logs) n j) (length (parts_of logs))) [
        | inl below ↦ below
        | inr past ↦
            let before : h.0 < page_of (parts_of logs) n j = omega arith in
            let no = fails_before_first (is_part n j) (parts_of logs) h.0 (part n j) before in
            let not : is_part n j (part n j) ≡ false = rw h.2 at no in
            absurd (true≢false (sym (is_itself n j) ∙ not))
      ]

  pub page_holds : (n j : ℕ) → n < length logs → j < page_count (length (log_of logs n)) →
      slice_get (parts_of logs) (page_of (parts_of logs) n j) ≡ Some (part n j)
  page_holds n j less few =
      let below = page_below n j less few in
      let place = page_of (parts_of logs) n j in
      let held = get_or (parts_of logs) place (part n j) in
      let passes = passes_at_first (is_part n j) (parts_of logs) (part n j) below in
      let both = and_parts (eqb held.inode n) (eqb held.index j) passes in
      let same : held ≡ part n j = same_part held n j (eqb-true held.inode n both.0) (eqb-true held.index j both.1) in
      rw (← same) (slice_get-get_or (parts_of logs) place (part n j) below)

  -- other parts have other pages
  pub pages_apart : (n i j : ℕ) → n < length logs → i < page_count (length (log_of logs n)) → j < page_count (length (log_of logs n)) →
      page_of (parts_of logs) n i ≡ page_of (parts_of logs) n j → i ≡ j
  pages_apart n i j less few fewer e =
      let a = page_holds n i less few in
      let b = page_holds n j less fewer in
      let c : slice_get (parts_of logs) (page_of (parts_of logs) n j) ≡ Some (part n i) = rw e at a in
      let same : Some (part n i) ≡ Some (part n j) = sym c ∙ b in
      ap (λ (o : Option Part). unwrap_or (option_map (λ p. p.index) o) 0) same

  first_length : length first_parts ≡ length logs
  unfolding first_parts
  first_length = length-map-range_with_len (λ (inode : ℕ). part inode 0) 0 (length logs)

  first_at : (k : ℕ) (d : Part) → k < length logs → get_or (parts_of logs) k d ≡ part k 0
  unfolding parts_of first_parts rest_parts
  first_at k d less =
      let within : k < length first_parts = omega (arith, first_length) in
      get_or_append_left first_parts rest_parts d k within
      ∙ get_or-map-range_with_len (λ (inode : ℕ). part inode 0) 0 (length logs) k k d less (omega arith)

  parts_many : length logs ≤ length (parts_of logs)
  unfolding parts_of first_parts rest_parts
  parts_many = omega (arith, length-append first_parts rest_parts, first_length)

  -- a log has no more parts than there are
  pub count_fits : (n : ℕ) → n < length logs → page_count (length (log_of logs n)) ≤ length (parts_of logs)
  unfolding parts_of first_parts rest_parts
  count_fits n less =
      let count = page_count (length (log_of logs n)) in
      let inner = piece_fits (further_parts logs) 0 (length logs) n (omega arith) (omega arith) in
      let size = length-map-range_with_len (part n) 1 (count - 1) in
      omega (arith, length-append first_parts rest_parts, first_length)

  pub first_page : (n : ℕ) → n < length logs → page_of (parts_of logs) n 0 ≡ n
  first_page n less =
      let d = part 0 0 in
      let here : is_part n 0 (get_or (parts_of logs) n d) ≡ true = rw (first_at n d less) (is_itself n 0) in
      position_or_len_is (is_part n 0) (parts_of logs) n d (omega (arith, parts_many))
      (λ k before.
      let there : k < length logs = omega arith in
      let other : eqb k n ≡ false = ne_eqb k n (λ e. absurd (omega arith)) in
      rw (first_at k d there, other) refl)
      (λ within. here)

  -- each part is one of a log
  pub all_parts : All (λ p. (p.inode < length logs) × (p.index < page_count (length (log_of logs p.inode)))) (parts_of logs)
  unfolding parts_of first_parts rest_parts
  all_parts =
      let P : Part → Type 0 = λ p. (p.inode < length logs) × (p.index < page_count (length (log_of logs p.inode))) in
      let first : All P first_parts = λ k d less.
      let below : k < length logs = omega (arith, first_length) in
      let e = get_or-map-range_with_len (λ (inode : ℕ). part inode 0) 0 (length logs) k k d below (omega arith) in
      rw e (below, omega arith) in
      let rest : All P rest_parts = all_pieces P (further_parts logs) 0 (length logs) (λ m low high k d less.
      let count = page_count (length (log_of logs m)) in
      let size = length-map-range_with_len (part m) 1 (count - 1) in
      let below : k < count - 1 = omega arith in
      let e = get_or-map-range_with_len (part m) 1 (count - 1) k (1 + k) d below (omega arith) in
      rw e (omega arith, omega arith)) in
      All-append P first_parts rest_parts first rest

pub held_part : (logs : List (List Entry)) (parts : List Part) (k : ℕ) (p : Part) → parts ≡ parts_of logs → k < length parts → ((d : Part) → p ≡ get_or parts k d) →
    (p.inode < length logs) × (p.index < page_count (length (log_of logs p.inode)))
held_part logs parts k p same less at =
    let d = part 0 0 in
    rw (at d, same) (all_parts logs k d (rw same at less))
