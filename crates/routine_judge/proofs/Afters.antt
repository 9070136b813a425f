-- The bytes of a line after each number of its stores, one event further each.
use Rattle.std.proofs.Common.{◌≡◌, ℕ, zero, suc, ◌+◌, ◌-◌, ◌<◌, ◌≤◌, true, false, nat_le, List, [], ◌∷◌, ◌++◌, length, get_or, take, refl, sym, ap, subst, ◌∙◌, inl, inr, arith}
use Rattle.std.proofs.lemmas.Bool.{cases_Bool, leb-true, leb-false}
use Rattle.std.proofs.lemmas.Bool.Decides.{nat_tests}
use Rattle.std.proofs.lemmas.List.{append-nil, take_more}
use Rattle.std.proofs.lemmas.List.Concat.{flat_map-append}
use Rattle.store_trace.proofs.Bounds.{floor_le_stores}
use Rattle.store_trace.proofs.Images.{line_after_none, line_after_store}
use Rattle.store_trace.specs.Cut.{width_of}
use Rattle.store_trace.specs.Floor.{floor}
use Rattle.store_trace.specs.History.{steps_of}
use Rattle.store_trace.specs.Image.{line_after}
use Rattle.store_trace.specs.Stores.{stores}
use Rattle.store_trace.specs.declared.crash_model.step.PersistenceStep.{PersistenceStep}
use Rattle.store_trace.specs.declared.crash_model.step.PersistenceStep.TheVariants as steps
use Rattle.store_trace.specs.declared.event.Event.{Event}
use Rattle.store_trace.specs.declared.event.Event.TheVariants.{Store, Clean, Fence, Begin, End}
use Rattle.word_bits.specs.Bytes.{stored}
use Rattle.recovery.specs.Boxes.{after_each, left_of_line}
use Rattle.routine_judge.proofs.Unions.{same_as, same_union, union_append, union_as}
use Rattle.routine_judge.specs.LeftContents.{HaveSame, IsLineAfter, IsReadTo, IsUnion, after_all, is_store_of, left_now}
use Rattle.routine_judge.specs.declared.cuts.left.LineSoFar.{LineSoFar}

-- a line after an event
stores_here : (l o w v : ℕ) (p : List PersistenceStep) → stores l (steps.Store l o w v ∷ p) ≡ stores l p + 1
stores_here l o w v p = grind (arith, nat_tests)

pub after_store : (start : List ℕ) (p : List PersistenceStep) (old new : LineSoFar) (h m o w v : ℕ) → m ≡ old.line → new.line ≡ old.line → new.stores ≡ old.stores + 1
    → new.bytes ≡ stored old.bytes o w v → IsLineAfter start p old → IsLineAfter start (steps_of (Store h m o w v) ++ p) new
after_store start p old new h m o w v here line more bytes s =
    let count : new.stores ≡ stores old.line (steps.Store old.line o w v ∷ p) = more ∙ ap (λ (n : ℕ). n + 1) s.count ∙ sym (stores_here old.line o w v p) in
    let made : new.bytes ≡ line_after start old.line (stores old.line (steps.Store old.line o w v ∷ p)) (steps.Store old.line o w v ∷ p) =
    bytes
    ∙ ap (λ (b : List ℕ). stored b o w v) s.made
    ∙ sym (line_after_store start old.line o w v p)
    ∙ ap (λ (n : ℕ). line_after start old.line n (steps.Store old.line o w v ∷ p)) (sym (stores_here old.line o w v p)) in
    record {
      count = subst (λ (n : ℕ). new.stores ≡ stores n (steps.Store m o w v ∷ p)) (sym line)
          (subst (λ (n : ℕ). new.stores ≡ stores old.line (steps.Store n o w v ∷ p)) (sym here) count);
      made = subst (λ (n : ℕ). new.bytes ≡ line_after start n (stores n (steps.Store m o w v ∷ p)) (steps.Store m o w v ∷ p)) (sym line)
          (subst (λ (n : ℕ). new.bytes ≡ line_after start old.line (stores old.line (steps.Store n o w v ∷ p)) (steps.Store n o w v ∷ p)) (sym here) made);
    }

pub no_store : (l : ℕ) (event : Event) → ((h m o w v : ℕ) → ¬ (event ≡ Store h m o w v)) → is_store_of l event ≡ false
no_store l (Store h m o w v) none = absurd (none h m o w v refl)
no_store l (Clean h m) none = refl
no_store l (Fence h) none = refl
no_store l (Begin h op) none = refl
no_store l (End h op) none = refl

-- numbers of stores that the line had before stand for the same bytes
kept_before : (start : List ℕ) (l k : ℕ) (event : Event) (p : List PersistenceStep) → k ≤ stores l p → line_after start l k (steps_of event ++ p) ≡ line_after start l k p
kept_before start l k (Store h m o w v) p few = grind (arith, nat_tests)
kept_before start l k (Clean h m) p few = refl
kept_before start l k (Fence h) p few = refl
kept_before start l k (Begin h op) p few = refl
kept_before start l k (End h op) p few = refl

kept_other : (start : List ℕ) (l k : ℕ) (event : Event) (p : List PersistenceStep) → is_store_of l event ≡ false → line_after start l k (steps_of event ++ p) ≡ line_after start l k p
kept_other start l k (Store h m o w v) p other = rw other refl
kept_other start l k (Clean h m) p other = refl
kept_other start l k (Fence h) p other = refl
kept_other start l k (Begin h op) p other = refl
kept_other start l k (End h op) p other = refl

stores_other : (l : ℕ) (event : Event) (p : List PersistenceStep) → is_store_of l event ≡ false → stores l (steps_of event ++ p) ≡ stores l p
stores_other l (Store h m o w v) p other = rw other refl
stores_other l (Clean h m) p other = refl
stores_other l (Fence h) p other = refl
stores_other l (Begin h op) p other = refl
stores_other l (End h op) p other = refl

stores_more : (l : ℕ) (event : Event) (p : List PersistenceStep) → is_store_of l event ≡ true → stores l (steps_of event ++ p) ≡ stores l p + 1
stores_more l (Store h m o w v) p own = rw own refl
stores_more l (Clean h m) p own = absurd (cc)
stores_more l (Fence h) p own = absurd (cc)
stores_more l (Begin h op) p own = absurd (cc)
stores_more l (End h op) p own = absurd (cc)

pub after_other : (start : List ℕ) (p : List PersistenceStep) (line : LineSoFar) (event : Event) → is_store_of line.line event ≡ false → IsLineAfter start p line
    → IsLineAfter start (steps_of event ++ p) line
after_other start p line event other s = record {
  count = s.count ∙ sym (stores_other line.line event p other);
  made = s.made
      ∙ sym (ap (λ (n : ℕ). line_after start line.line n (steps_of event ++ p)) (stores_other line.line event p other)
      ∙ kept_other start line.line (stores line.line p) event p other);
}

-- the bytes after each of so many numbers
each_same : (start : List ℕ) (l : ℕ) (p q : List PersistenceStep) (low many : ℕ) → ((k : ℕ) → k < low + many → line_after start l k q ≡ line_after start l k p)
    → after_each start l q low many ≡ after_each start l p low many
each_same start l p q low zero same = refl
each_same start l p q low (suc many) same =
    ap (λ (bytes : List ℕ). bytes ∷ after_each start l q (low + 1) many) (same low (omega arith))
    ∙ ap (λ (rest : List (List ℕ)). line_after start l low p ∷ rest) (each_same start l p q (low + 1) many (λ k below. same k (omega (arith, below))))

each_more : (start : List ℕ) (l : ℕ) (p : List PersistenceStep) (low many : ℕ)
    → after_each start l p low (suc many) ≡ after_each start l p low many ++ line_after start l (low + many) p ∷ []
each_more start l p low zero = let none : low + 0 ≡ low = omega arith in rw none refl
each_more start l p low (suc many) =
    let next : low + 1 + many ≡ low + suc many = omega arith in
    ap (λ (rest : List (List ℕ)). line_after start l low p ∷ rest) (each_more start l p (low + 1) many)
    ∙ ap (λ (n : ℕ). line_after start l low p ∷ (after_each start l p (low + 1) many ++ line_after start l n p ∷ [])) next

all_other : (start : List ℕ) (l low : ℕ) (event : Event) (p : List PersistenceStep) → is_store_of l event ≡ false
    → after_all start l (steps_of event ++ p) low ≡ after_all start l p low
all_other start l low event p other =
    ap (λ (n : ℕ). after_each start l (steps_of event ++ p) low (n + 1 - low)) (stores_other l event p other)
    ∙ each_same start l p (steps_of event ++ p) low (stores l p + 1 - low) (λ k below. kept_other start l k event p other)

all_early : (start : List ℕ) (l low : ℕ) (event : Event) (p : List PersistenceStep) → is_store_of l event ≡ true → stores l p + 1 < low
    → after_all start l (steps_of event ++ p) low ≡ after_all start l p low
all_early start l low event p own few =
    let one : stores l p + 1 + 1 - low ≡ 0 = omega (arith, few) in
    let other : stores l p + 1 - low ≡ 0 = omega (arith, few) in
    ap (λ (n : ℕ). after_each start l (steps_of event ++ p) low (n + 1 - low)) (stores_more l event p own)
    ∙ ap (λ (n : ℕ). after_each start l (steps_of event ++ p) low n) one
    ∙ ap (λ (n : ℕ). after_each start l p low n) (sym other)

all_more : (start : List ℕ) (l low : ℕ) (event : Event) (p : List PersistenceStep) → is_store_of l event ≡ true → low ≤ stores l p + 1
    → after_all start l (steps_of event ++ p) low ≡ after_all start l p low ++ line_after start l (stores l (steps_of event ++ p)) (steps_of event ++ p) ∷ []
all_more start l low event p own enough =
    let many : ℕ = stores l p + 1 - low in
    let next : stores l p + 1 + 1 - low ≡ suc (stores l p + 1 - low) = omega (arith, enough) in
    let last : low + (stores l p + 1 - low) ≡ stores l p + 1 = omega (arith, enough) in
    ap (λ (n : ℕ). after_each start l (steps_of event ++ p) low (n + 1 - low)) (stores_more l event p own)
    ∙ ap (λ (n : ℕ). after_each start l (steps_of event ++ p) low n) next
    ∙ each_more start l (steps_of event ++ p) low (stores l p + 1 - low)
    ∙ ap (λ (front : List (List ℕ)). front ++ line_after start l (low + (stores l p + 1 - low)) (steps_of event ++ p) ∷ [])
    (each_same start l p (steps_of event ++ p) low (stores l p + 1 - low) (λ k below. kept_before start l k event p (omega (arith, below, last))))
    ∙ ap (λ (n : ℕ). after_all start l p low ++ line_after start l n (steps_of event ++ p) ∷ []) (last ∙ sym (stores_more l event p own))

-- what cuts leave of the line now is what they left before and what it has now
now_left : (start : List ℕ) (p : List PersistenceStep) (event : Event) (old new : LineSoFar) → is_store_of old.line event ≡ true → new.line ≡ old.line → new.low ≡ old.low
    → IsLineAfter start (steps_of event ++ p) new
    → after_all start old.line p old.low ++ left_now new ≡ after_all start new.line (steps_of event ++ p) new.low
now_left start p event old new own line low s =
    let count : new.stores ≡ stores old.line p + 1 = s.count ∙ ap (λ (l : ℕ). stores l (steps_of event ++ p)) line ∙ stores_more old.line event p own in
    let made : new.bytes ≡ line_after start old.line (stores old.line (steps_of event ++ p)) (steps_of event ++ p) =
    s.made ∙ ap (λ (l : ℕ). line_after start l (stores l (steps_of event ++ p)) (steps_of event ++ p)) line in
    elim (cases_Bool (nat_le new.low new.stores)) [
      | inl enough ↦
          let fits : new.low ≤ new.stores = leb-true new.low new.stores enough in
          rw (enough, line, low, made) (sym (all_more start old.line old.low event p own (omega (arith, fits, low, count))))
      | inr early ↦
          let few : new.stores < new.low = leb-false new.low new.stores early in
          rw (early, line, low) (append-nil (after_all start old.line p old.low) ∙ sym (all_early start old.line old.low event p own (omega (arith, few, low, count))))
    ]

pub read_store : (start : List ℕ) (p : List PersistenceStep) (event : Event) (before left next : List (List ℕ)) (old new : LineSoFar) → is_store_of old.line event ≡ true
    → new.line ≡ old.line → new.low ≡ old.low → IsLineAfter start (steps_of event ++ p) new → IsUnion left (left_now new) next → IsReadTo start p before old left
    → IsReadTo start (steps_of event ++ p) before new next
read_store start p event before left next old new own line low s added r = record {
  after = s;
  added = union_as before (after_all start old.line p old.low ++ left_now new) (after_all start new.line (steps_of event ++ p) new.low) next
      (now_left start p event old new own line low s)
      (union_append before (after_all start old.line p old.low) left (left_now new) next r.added added);
}

pub read_other : (start : List ℕ) (p : List PersistenceStep) (event : Event) (before left : List (List ℕ)) (old new : LineSoFar) → is_store_of old.line event ≡ false
    → new.line ≡ old.line → new.low ≡ old.low → IsLineAfter start (steps_of event ++ p) new → IsReadTo start p before old left
    → IsReadTo start (steps_of event ++ p) before new left
read_other start p event before left old new other line low s r = record {
  after = s;
  added = union_as before (after_all start old.line p old.low) (after_all start new.line (steps_of event ++ p) new.low) left
      (sym (all_other start old.line old.low event p other)
      ∙ ap (λ (l : ℕ). after_all start l (steps_of event ++ p) old.low) (sym line)
      ∙ ap (λ (n : ℕ). after_all start new.line (steps_of event ++ p) n) (sym low)) r.added;
}

-- before the first event
first_left : (start : List ℕ) (line : LineSoFar) → line.stores ≡ 0 → line.bytes ≡ start → left_now line ≡ after_all start line.line [] line.low
first_left start line none made = elim (cases_Bool (nat_le line.low line.stores)) [
  | inl enough ↦
      let fits : line.low ≤ line.stores = leb-true line.low line.stores enough in
      let low : line.low ≡ 0 = omega (arith, fits, none) in
      rw (enough, low, made) refl
  | inr early ↦
      let few : line.stores < line.low = leb-false line.low line.stores early in
      let gone : 0 + 1 - line.low ≡ 0 = omega (arith, few) in
      rw (early, gone) refl
]

pub read_none : (start : List ℕ) (before left : List (List ℕ)) (line : LineSoFar) → line.stores ≡ 0 → line.bytes ≡ start → IsUnion before (left_now line) left
    → IsReadTo start [] before line left
read_none start before left line none made added = record {
  after = record { count = none; made = made };
  added = union_as before (left_now line) (after_all start line.line [] line.low) left (first_left start line none made) added;
}

-- behind the last event
pub read_all : (start : List ℕ) (p : List PersistenceStep) (before left : List (List ℕ)) (line : LineSoFar) (l low : ℕ) → line.line ≡ l → line.low ≡ low
    → IsReadTo start p before line left → IsUnion before (after_all start l p low) left
read_all start p before left line l low e f r =
    union_as before (after_all start line.line p line.low) (after_all start l p low) left
    (ap (λ (n : ℕ). after_all start n p line.low) e ∙ ap (λ (n : ℕ). after_all start l p n) f) r.added

-- what cuts leave of a content more
one_more : (l : ℕ) (p : List PersistenceStep) (contents : List (List ℕ)) (i : ℕ) (d : List ℕ) → i < length contents
    → left_of_line l p (take i contents) ++ after_all (get_or contents i d) l p (floor l p) ≡ left_of_line l p (take (i + 1) contents)
one_more l p contents i d there =
    let bound = floor_le_stores l p in
    let many : stores l p + 1 - floor l p ≡ width_of p l = omega (arith, bound) in
    ap (λ (n : ℕ). left_of_line l p (take i contents) ++ after_each (get_or contents i d) l p (floor l p) n) many
    ∙ ap (λ (rest : List (List ℕ)). left_of_line l p (take i contents) ++ rest) (sym (append-nil (after_each (get_or contents i d) l p (floor l p) (width_of p l))))
    ∙ sym (flat_map-append (λ bytes. after_each bytes l p (floor l p) (width_of p l)) (take i contents) (get_or contents i d ∷ []))
    ∙ ap (λ (all : List (List ℕ)). left_of_line l p all) (sym (take_more contents i d there))

pub left_further : (l low : ℕ) (p : List PersistenceStep) (contents left next : List (List ℕ)) (i : ℕ) (d : List ℕ) → i < length contents → low ≡ floor l p
    → HaveSame left (left_of_line l p (take i contents)) → IsUnion left (after_all (get_or contents i d) l p low) next
    → HaveSame next (left_of_line l p (take (i + 1) contents))
left_further l low p contents left next i d there is same added =
    same_as next (left_of_line l p (take i contents) ++ after_all (get_or contents i d) l p (floor l p)) (left_of_line l p (take (i + 1) contents))
    (one_more l p contents i d there)
    (same_union left (left_of_line l p (take i contents)) (after_all (get_or contents i d) l p (floor l p)) next same
    (union_as left (after_all (get_or contents i d) l p low) (after_all (get_or contents i d) l p (floor l p)) next
    (ap (λ (n : ℕ). after_all (get_or contents i d) l p n) is) added))

-- a line without a store is left as it is
pub nothing_stored : (l : ℕ) (p : List PersistenceStep) (contents : List (List ℕ)) → stores l p ≡ 0 → left_of_line l p contents ≡ contents
nothing_stored l p [] none = refl
nothing_stored l p (bytes ∷ contents) none =
    let bound = floor_le_stores l p in
    let low : floor l p ≡ 0 = omega (arith, none, bound) in
    let one : width_of p l ≡ 1 = omega (arith, none, bound) in
    ap (λ (n : ℕ). after_each bytes l p (floor l p) n ++ left_of_line l p contents) one
    ∙ ap (λ (n : ℕ). line_after bytes l n p ∷ left_of_line l p contents) low
    ∙ ap (λ (first : List ℕ). first ∷ left_of_line l p contents) (line_after_none bytes l p)
    ∙ ap (λ (rest : List (List ℕ)). bytes ∷ rest) (nothing_stored l p contents none)

-- something is left of each content
pub some_left : (l : ℕ) (p : List PersistenceStep) (contents : List (List ℕ)) → 0 < length contents → 0 < length (left_of_line l p contents)
some_left l p [] some = absurd (omega (arith, some))
some_left l p (bytes ∷ contents) some =
    let many : width_of p l ≡ suc (stores l p - floor l p) = omega arith in
    rw many (omega arith)
