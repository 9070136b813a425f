-- The operations that are open, one event more.
use Rattle.std.proofs.Common.{◌≡◌, ℕ, zero, suc, ◌+◌, ◌-◌, ◌<◌, ◌≤◌, ◌==◌, ◌&&◌, false, inl, inr, List, [], ◌∷◌, ◌++◌, Option, Some, None, length, get_or, refl, sym, ap, subst, ◌∙◌, arith}
use Rattle.std.specs.Prelude.{drop, reverse, slice_get, slice_index_or, slice_set, take}
use Rattle.std.specs.BTreeMap.{Updates, get}
use Rattle.std.specs.Ordering.{is_eq}
use Rattle.std.proofs.Math.Seq.{get_or-append_seam}
use Rattle.std.proofs.lemmas.Bool.{cases_Bool}
use Rattle.std.proofs.lemmas.Bool.Decides.{nat_tests}
use Rattle.std.proofs.lemmas.List.{get_or_append_left, get_or-set_other, get_or-set_same, length-append, length-reverse, length-take-le}
use Rattle.store_trace.specs.declared.event.Event.{Event}
use Rattle.store_trace.specs.declared.event.Event.TheVariants.{Begin, End}
use Rattle.durability.proofs.Counts.{begin_of_hart, begin_of_other, end_of_hart, end_of_none, end_of_other, few_of_hart}
use Rattle.durability.proofs.Marks.{ends_its_first, ends_no_begin, newest}
use Rattle.durability.specs.Numbered.{event_at}
use Rattle.durability.specs.Operations.{AreLinked, AreOpen, AreOpenAfter, IsEndedBy, open_at, open_begins, open_of_hart, open_operations, operation_cmp}
use Rattle.durability.specs.declared.operations.OpenOperations.{OpenOperations}

-- what is told of one event more changes no link
linked_more : (before : List (Option ℕ)) (x first : Option ℕ) (bs : List ℕ) → AreLinked before first bs → AreLinked (before ++ x ∷ []) first bs
linked_more before x first [] a = a
linked_more before x first (b ∷ bs) a =
    let size = length-append before (x ∷ []) in
    let there : b - 1 < length before = omega (arith, a.1, a.2) in
    (a.0, a.1, omega (arith, a.2, size), rw (get_or_append_left before (x ∷ []) None (b - 1) there) (linked_more before x (get_or before (b - 1) None) bs a.3))

-- a Begin before the others
linked_first : (before : List (Option ℕ)) (first : Option ℕ) (n : ℕ) (bs : List ℕ) → n ≡ length before + 1 → AreLinked before first bs →
    AreLinked (before ++ first ∷ []) (Some n) (n ∷ bs)
linked_first before first n bs is a =
    let size = length-append before (first ∷ []) in
    let back : n - 1 ≡ length before = omega (arith, is) in
    (refl, omega (arith, is), omega (arith, is, size), rw (back, get_or-append_seam before first [] None) (linked_more before first first bs a))

linked_as : (xs ys : List (Option ℕ)) (f g : Option ℕ) (bs cs : List ℕ) → ys ≡ xs → g ≡ f → cs ≡ bs → AreLinked xs f bs → AreLinked ys g cs
linked_as xs ys f g bs cs p q r a =
    subst (λ zs. AreLinked zs g cs) (sym p) (subst (λ o. AreLinked xs o cs) (sym q) (subst (λ ns. AreLinked xs f ns) (sym r) a))

pub no_link : (before : List (Option ℕ)) (first : Option ℕ) (bs : List ℕ) → first ≡ None → AreLinked before first bs → bs ≡ []
no_link before first [] none a = refl
no_link before first (b ∷ bs) none a = absurd (let never : None ≡ Some b = sym none ∙ a.0 in cc)

-- the first of the links, and those behind it
pub record HasFirst (before : List (Option ℕ)) (b : ℕ) (bs : List ℕ) : Type 0 where
  pub first : slice_get bs 0 ≡ Some b
  pub some : 0 < length bs
  pub above : 0 < b
  pub low : b ≤ length before
  pub rest : (d : Option ℕ) → AreLinked before (slice_index_or before (b - 1) d) (drop 1 bs)

any_default : (before : List (Option ℕ)) (i : ℕ) (d e : Option ℕ) → i < length before → get_or before i d ≡ get_or before i e
any_default [] i d e there = absurd (omega (arith, there))
any_default (x ∷ xs) zero d e there = refl
any_default (x ∷ xs) (suc i) d e there = any_default xs i d e (omega (arith, there))

pub has_first : (before : List (Option ℕ)) (first : Option ℕ) (b : ℕ) (bs : List ℕ) → first ≡ Some b → AreLinked before first bs → HasFirst before b bs
has_first before first b [] is a = absurd (let never : None ≡ Some b = sym a ∙ is in cc)
has_first before first b (c ∷ bs) is a =
    let same : c ≡ b = (let both : Some c ≡ Some b = sym a.0 ∙ is in cc) in
    let above : 0 < b = omega (arith, a.1, same) in
    let low : b ≤ length before = omega (arith, a.2, same) in
    record {
      first = ap (λ (n : ℕ). Some n) same;
      some = omega arith;
      above = above;
      low = low;
      rest = λ d. rw (any_default before (b - 1) d None (omega (arith, above, low))) (rw same at a.3);
    }

-- the key of another operation
other_key : (g other h op : ℕ) → ((g == h) && (other == op)) ≡ false → is_eq (operation_cmp (g, other) (h, op)) ≡ false
other_key g other h op not_both = grind (arith, nat_tests)

-- an event that is no mark
pub stays : (p : List Event) (event : Event) (old now : OpenOperations) → ((h op : ℕ) → open_begins h op (event ∷ p) ≡ open_begins h op p) →
    open_operations (event ∷ p) ≡ open_operations p → now.before.items ≡ old.before.items ++ None ∷ [] → now.last ≡ old.last →
    now.counts ≡ old.counts → AreOpenAfter p old → AreOpenAfter (event ∷ p) now
stays p event old now begins operations before last counts a = record {
  size = ap (λ xs. length xs) before ∙ omega (arith, length-append old.before.items (None ∷ []), a.size);
  begins = λ h op.
      linked_as (old.before.items ++ None ∷ []) now.before.items (get operation_cmp old.last (h, op)) (get operation_cmp now.last (h, op))
      (open_begins h op p) (open_begins h op (event ∷ p)) before (ap (λ m. get operation_cmp m (h, op)) last) (begins h op)
      (linked_more old.before.items None (get operation_cmp old.last (h, op)) (open_begins h op p) (a.begins h op));
  counts = λ h d low. rw (counts, operations) (a.counts h d low);
}

-- a Begin
pub begun : (p : List Event) (g other : ℕ) (old now : OpenOperations) → now.before.items ≡ old.before.items ++ get operation_cmp old.last (g, other) ∷ [] →
    Updates operation_cmp old.last now.last (g, other) (Some (length p + 1)) →
    g < 8 → length old.counts ≡ 8 → now.counts ≡ slice_set old.counts g (slice_index_or old.counts g 0 + 1) →
    AreOpenAfter p old → AreOpenAfter (Begin g other ∷ p) now
begun p g other old now before last within harts counts a = record {
  size = ap (λ xs. length xs) before ∙ omega (arith, length-append old.before.items (get operation_cmp old.last (g, other) ∷ []), a.size);
  begins = λ h op. elim (cases_Bool ((g == h) && (other == op))) [
    | inl both ↦
        let hart : g ≡ h = grind (arith, nat_tests, both) in
        let operation : other ≡ op = grind (arith, nat_tests, both) in
        let opened : open_begins h op (Begin g other ∷ p) ≡ (length p + 1) ∷ open_begins g other p = rw (both, hart, operation) refl in
        let key : get operation_cmp now.last (h, op) ≡ Some (length p + 1) = rw (← hart, ← operation) last.1 in
        linked_as (old.before.items ++ get operation_cmp old.last (g, other) ∷ []) now.before.items (Some (length p + 1)) (get operation_cmp now.last (h, op))
        ((length p + 1) ∷ open_begins g other p) (open_begins h op (Begin g other ∷ p)) before key opened
        (linked_first old.before.items (get operation_cmp old.last (g, other)) (length p + 1) (open_begins g other p) (omega (arith, a.size)) (a.begins g other))
    | inr not_both ↦
        let opened : open_begins h op (Begin g other ∷ p) ≡ open_begins h op p = rw not_both refl in
        linked_as (old.before.items ++ get operation_cmp old.last (g, other) ∷ []) now.before.items (get operation_cmp old.last (h, op))
        (get operation_cmp now.last (h, op)) (open_begins h op p) (open_begins h op (Begin g other ∷ p)) before
        (last.2 (h, op) (other_key g other h op not_both)) opened
        (linked_more old.before.items (get operation_cmp old.last (g, other)) (get operation_cmp old.last (h, op)) (open_begins h op p) (a.begins h op))
  ];
  counts = λ h d low. elim (cases_Bool (g == h)) [
    | inl is ↦
        let hart : g ≡ h = grind (arith, nat_tests, is) in
        let more : slice_index_or now.counts g d ≡ slice_index_or old.counts g 0 + 1 =
        ap (λ ns. slice_index_or ns g d) counts ∙ get_or-set_same old.counts g (slice_index_or old.counts g 0 + 1) d (omega (arith, within, harts)) in
        let count : slice_index_or now.counts g d ≡ open_of_hart g (Begin g other ∷ p) =
        omega (arith, more, a.counts g 0 within, begin_of_hart g other p) in
        subst (λ (i : ℕ). slice_index_or now.counts i d ≡ open_of_hart i (Begin g other ∷ p)) hart count
    | inr isnt ↦
        let same : slice_index_or now.counts h d ≡ slice_index_or old.counts h d =
        ap (λ ns. slice_index_or ns h d) counts
        ∙ get_or-set_other old.counts g h (slice_index_or old.counts g 0 + 1) d (λ e. absurd (grind (arith, nat_tests, isnt, e))) in
        omega (arith, same, a.counts h d low, begin_of_other g other h p isnt)
  ];
}

-- an End where none of its Begins is open
pub ended_none : (p : List Event) (g other : ℕ) (old now : OpenOperations) → now.before.items ≡ old.before.items ++ None ∷ [] →
    now.last ≡ old.last → now.counts ≡ old.counts → open_begins g other p ≡ [] → AreOpenAfter p old → AreOpenAfter (End g other ∷ p) now
ended_none p g other old now before last counts none a = record {
  size = ap (λ xs. length xs) before ∙ omega (arith, length-append old.before.items (None ∷ []), a.size);
  begins = λ h op.
      let same : open_begins h op (End g other ∷ p) ≡ open_begins h op p = elim (cases_Bool ((g == h) && (other == op))) [
        | inl both ↦
            let hart : g ≡ h = grind (arith, nat_tests, both) in
            let operation : other ≡ op = grind (arith, nat_tests, both) in
            let empty : open_begins h op p ≡ [] = rw (← hart, ← operation) none in
            rw (both, empty) refl
        | inr not_both ↦ rw not_both refl
      ] in
      linked_as (old.before.items ++ None ∷ []) now.before.items (get operation_cmp old.last (h, op)) (get operation_cmp now.last (h, op))
      (open_begins h op p) (open_begins h op (End g other ∷ p)) before (ap (λ m. get operation_cmp m (h, op)) last) same
      (linked_more old.before.items None (get operation_cmp old.last (h, op)) (open_begins h op p) (a.begins h op));
  counts = λ h d low. rw (counts, end_of_none g other h p none) (a.counts h d low);
}

-- and where one is
pub ended : (p : List Event) (g other b : ℕ) (next d : Option ℕ) (old now : OpenOperations) → now.before.items ≡ old.before.items ++ None ∷ [] →
    get operation_cmp old.last (g, other) ≡ Some b → next ≡ slice_index_or (old.before.items ++ None ∷ []) (b - 1) d →
    Updates operation_cmp old.last now.last (g, other) next →
    g < 8 → length old.counts ≡ 8 → now.counts ≡ slice_set old.counts g (slice_index_or old.counts g 0 - 1) →
    AreOpenAfter p old → AreOpenAfter (End g other ∷ p) now
ended p g other b next d old now before is behind last within harts counts a =
    let first = has_first old.before.items (get operation_cmp old.last (g, other)) b (open_begins g other p) is (a.begins g other) in
    let there : b - 1 < length old.before.items = omega (arith, first.above, first.low) in
    let link : next ≡ slice_index_or old.before.items (b - 1) None =
    behind ∙ get_or_append_left old.before.items (None ∷ []) d (b - 1) there ∙ any_default old.before.items (b - 1) d None there in
    record {
      size = ap (λ xs. length xs) before ∙ omega (arith, length-append old.before.items (None ∷ []), a.size);
      begins = λ h op. elim (cases_Bool ((g == h) && (other == op))) [
        | inl both ↦
            let hart : g ≡ h = grind (arith, nat_tests, both) in
            let operation : other ≡ op = grind (arith, nat_tests, both) in
            let closed : open_begins h op (End g other ∷ p) ≡ drop 1 (open_begins g other p) = rw (both, hart, operation) refl in
            let key : get operation_cmp now.last (h, op) ≡ next = rw (← hart, ← operation) last.1 in
            let here : AreLinked (old.before.items ++ None ∷ []) next (drop 1 (open_begins g other p)) =
            rw link (linked_more old.before.items None (slice_index_or old.before.items (b - 1) None) (drop 1 (open_begins g other p)) (first.rest None)) in
            linked_as (old.before.items ++ None ∷ []) now.before.items next (get operation_cmp now.last (h, op)) (drop 1 (open_begins g other p))
            (open_begins h op (End g other ∷ p)) before key closed here
        | inr not_both ↦
            let closed : open_begins h op (End g other ∷ p) ≡ open_begins h op p = rw not_both refl in
            linked_as (old.before.items ++ None ∷ []) now.before.items (get operation_cmp old.last (h, op)) (get operation_cmp now.last (h, op))
            (open_begins h op p) (open_begins h op (End g other ∷ p)) before (last.2 (h, op) (other_key g other h op not_both)) closed
            (linked_more old.before.items None (get operation_cmp old.last (h, op)) (open_begins h op p) (a.begins h op))
      ];
      counts = λ h d low. elim (cases_Bool (g == h)) [
        | inl same ↦
            let hart : g ≡ h = grind (arith, nat_tests, same) in
            let less : slice_index_or now.counts g d ≡ slice_index_or old.counts g 0 - 1 =
            ap (λ ns. slice_index_or ns g d) counts ∙ get_or-set_same old.counts g (slice_index_or old.counts g 0 - 1) d (omega (arith, within, harts)) in
            let count : slice_index_or now.counts g d ≡ open_of_hart g (End g other ∷ p) =
            omega (arith, less, a.counts g 0 within, end_of_hart g other p first.some) in
            subst (λ (i : ℕ). slice_index_or now.counts i d ≡ open_of_hart i (End g other ∷ p)) hart count
        | inr isnt ↦
            let kept : slice_index_or now.counts h d ≡ slice_index_or old.counts h d =
            ap (λ ns. slice_index_or ns h d) counts
            ∙ get_or-set_other old.counts g h (slice_index_or old.counts g 0 - 1) d (λ e. absurd (grind (arith, nat_tests, isnt, e))) in
            omega (arith, kept, a.counts h d low, end_of_other g other h p isnt)
      ];
    }

-- at a moment
size_then : (events : List Event) (at : ℕ) → at < length events → length (reverse (take at events)) ≡ at
size_then events at there = length-reverse (take at events) ∙ length-take-le at events (omega (arith, there))

one_more : (events : List Event) (at : ℕ) (event : Event) (now : OpenOperations) → event_at events (at + 1) ≡ Some event →
    AreOpenAfter (event ∷ reverse (take at events)) now → AreOpen events (at + 1) now
one_more events at event now here a = subst (λ (p : List Event). AreOpenAfter p now) (sym (newest events at event here)) a

pub read_other : (events : List Event) (at : ℕ) (event : Event) (old now : OpenOperations) → event_at events (at + 1) ≡ Some event →
    ((h op : ℕ) (p : List Event) → open_begins h op (event ∷ p) ≡ open_begins h op p) →
    ((p : List Event) → open_operations (event ∷ p) ≡ open_operations p) → now.before.items ≡ old.before.items ++ None ∷ [] →
    now.last ≡ old.last → now.counts ≡ old.counts → AreOpen events at old → AreOpen events (at + 1) now
read_other events at event old now here begins operations before last counts a =
    let p : List Event = reverse (take at events) in
    one_more events at event now here
    (stays (reverse (take at events)) event old now (λ h op. begins h op p) (operations p) before last counts a)

pub read_begin : (events : List Event) (at g op : ℕ) (old now : OpenOperations) → at < length events → event_at events (at + 1) ≡ Some (Begin g op) →
    now.before.items ≡ old.before.items ++ get operation_cmp old.last (g, op) ∷ [] → Updates operation_cmp old.last now.last (g, op) (Some (at + 1)) →
    g < 8 → length old.counts ≡ 8 → now.counts ≡ slice_set old.counts g (slice_index_or old.counts g 0 + 1) → AreOpen events at old →
    AreOpen events (at + 1) now
read_begin events at g op old now there here before last within harts counts a =
    let up : Updates operation_cmp old.last now.last (g, op) (Some (length (reverse (take at events)) + 1)) =
    subst (λ (n : ℕ). Updates operation_cmp old.last now.last (g, op) (Some (n + 1))) (sym (size_then events at there)) last in
    one_more events at (Begin g op) now here (begun (reverse (take at events)) g op old now before up within harts counts a)

pub read_end_none : (events : List Event) (at g op : ℕ) (old now : OpenOperations) → event_at events (at + 1) ≡ Some (End g op) →
    now.before.items ≡ old.before.items ++ None ∷ [] → now.last ≡ old.last → now.counts ≡ old.counts →
    get operation_cmp old.last (g, op) ≡ None → AreOpen events at old → AreOpen events (at + 1) now
read_end_none events at g op old now here before last counts none a =
    let empty = no_link old.before.items (get operation_cmp old.last (g, op)) (open_begins g op (reverse (take at events))) none (a.begins g op) in
    one_more events at (End g op) now here (ended_none (reverse (take at events)) g op old now before last counts empty a)

pub none_ended : (events : List Event) (at g op : ℕ) (old : OpenOperations) → event_at events (at + 1) ≡ Some (End g op) →
    get operation_cmp old.last (g, op) ≡ None → AreOpen events at old → IsEndedBy events (at + 1) None
none_ended events at g op old here none a =
    ends_no_begin events at g op here (no_link old.before.items (get operation_cmp old.last (g, op)) (open_at events at g op) none (a.begins g op))

pub first_of : (events : List Event) (at g op b : ℕ) (old : OpenOperations) → get operation_cmp old.last (g, op) ≡ Some b → AreOpen events at old →
    HasFirst old.before.items b (open_at events at g op)
first_of events at g op b old some a =
    has_first old.before.items (get operation_cmp old.last (g, op)) b (open_at events at g op) some (a.begins g op)

pub read_end : (events : List Event) (at g op b : ℕ) (next d : Option ℕ) (old now : OpenOperations) → event_at events (at + 1) ≡ Some (End g op) →
    now.before.items ≡ old.before.items ++ None ∷ [] → get operation_cmp old.last (g, op) ≡ Some b →
    next ≡ slice_index_or (old.before.items ++ None ∷ []) (b - 1) d → Updates operation_cmp old.last now.last (g, op) next →
    g < 8 → length old.counts ≡ 8 → now.counts ≡ slice_set old.counts g (slice_index_or old.counts g 0 - 1) → AreOpen events at old →
    AreOpen events (at + 1) now
read_end events at g op b next d old now here before is behind last within harts counts a =
    one_more events at (End g op) now here (ended (reverse (take at events)) g op b next d old now before is behind last within harts counts a)

pub one_ended : (events : List Event) (at g op b : ℕ) (old : OpenOperations) → event_at events (at + 1) ≡ Some (End g op) →
    get operation_cmp old.last (g, op) ≡ Some b → AreOpen events at old →
    IsEndedBy events (at + 1) (Some (record { hart = g; operation = op; begin = b; end = at + 1 }))
one_ended events at g op b old here some a = ends_its_first events at g op b here (first_of events at g op b old some a).first

-- no hart has more operations open than there were events, and one that ends has one
pub room : (events : List Event) (at g d : ℕ) (old : OpenOperations) → at < length events → g < 8 → AreOpen events at old →
    slice_index_or old.counts g d ≤ at
room events at g d old there within a =
    omega (arith, a.counts g d within, few_of_hart g (reverse (take at events)), size_then events at there)

pub counted : (events : List Event) (at g op b d : ℕ) (old : OpenOperations) → g < 8 → get operation_cmp old.last (g, op) ≡ Some b →
    AreOpen events at old → 1 ≤ slice_index_or old.counts g d
counted events at g op b d old within some a =
    omega (arith, a.counts g d within, end_of_hart g op (reverse (take at events)) (first_of events at g op b old some a).some)
