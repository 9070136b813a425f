-- The operations of some events, one event more.
use Rattle.std.proofs.Common.{◌≡◌, ◌⊎◌, ℕ, ◌<◌, Bool, true, false, inl, inr, List, [], ◌∷◌, ◌++◌, length, get_or, map, refl, sym, ap, ◌∙◌, subst, arith, Some, None, IsPermutation, eqb-true, eq-eqb}
use Rattle.std.specs.Prelude.{◌↔◌, ◌==◌, ◌||◌, IsTrue, filter}
use Rattle.std.specs.List.{AllPairs, Contains}
use Rattle.std.proofs.lemmas.List.{get_or-map, length-map}
use Rattle.std.proofs.lemmas.List.Elements.{Contains-append_left, Contains-push, Contains-push_cases}
use Rattle.std.proofs.lemmas.List.Kept.{AllPairs-filter}
use Rattle.std.proofs.lemmas.List.Sorted.{Contains-permutation, IsPermutation-sym}
use Rattle.store_trace.proofs.Members.{contains_cases, contains_first, contains_later, from_filter, in_filter, no_members}
use Rattle.store_trace.specs.Marks.{begun, begun_by, ended, ended_by}
use Rattle.routine_judge.proofs.Faulting.{ended_begun, no_fault, other_faultless}
use Rattle.routine_judge.proofs.Marked.{not_true, true_of}
use Rattle.routine_judge.proofs.Splitting.{before_cases, before_last, beginner, begun_behind, begun_in, from_more, in_last, in_more, kept_before}
use Rattle.routine_judge.specs.Order.{AreInOrder, AreOperations, Begun, HasHartFault, IsBegun, begins_in, with_end}
use Rattle.routine_judge.specs.declared.history.fault.MarkFault.{MarkFault}
use Rattle.routine_judge.specs.declared.history.fault.MarkFault.TheVariants.{BegunTwice}
use Rattle.routine_judge.specs.declared.history.overlap.Overlap.TheVariants.{BetweenHarts}
use Rattle.store_trace.specs.declared.event.Event.{Event}
use Rattle.store_trace.specs.declared.event.Event.TheVariants.{Store, Clean, Fence, Begin, End}

-- what is in a list that is mapped
pub in_map : {X Y : Type 0} (f : X → Y) (xs : List X) (x : X) → Contains xs x → Contains (map f xs) (f x)
in_map f xs x c = (
  c.0,
  omega (arith, c.1, length-map xs f),
  get_or-map f xs c.0 x (f x) c.1 ∙ ap f c.2,
)

pub from_map : {X Y : Type 0} (f : X → Y) (xs : List X) (y : Y) → Contains (map f xs) y → (x : X) × Contains xs x × (f x ≡ y)
from_map f [] y c = absurd (no_members y c)
from_map f (x ∷ xs) y c = elim (contains_cases (f x) (map f xs) y c) [
  | inl e ↦ (x, contains_first x xs x refl, e)
  | inr d ↦ let r = from_map f xs y d in (r.0, contains_later x xs r.0 r.1, r.2)
]

-- pairs of a list that is mapped
pub pairs_map : {X Y : Type 0} (f : X → Y) (R : Y → Y → Type 0) (xs : List X) → AllPairs (λ a b. R (f a) (f b)) xs → AllPairs R (map f xs)
pairs_map {X = X} {Y = Y} f R [] h i j d less inside = absurd (omega (arith, inside))
pairs_map {X = X} {Y = Y} f R (x ∷ xs) h i j d less inside =
    let long = length-map (x ∷ xs) f in
    let within : j < length (x ∷ xs) = omega (arith, inside, long) in
    subst (λ (y : Y). R y (get_or (map f (x ∷ xs)) j d)) (sym (get_or-map f (x ∷ xs) i x d (omega (arith, less, within))))
    (subst (λ (y : Y). R (f (get_or (x ∷ xs) i x)) y) (sym (get_or-map f (x ∷ xs) j x d within)) (h i j x less within))

pub map_pairs : {X Y : Type 0} (f : X → Y) (R : Y → Y → Type 0) (xs : List X) → AllPairs R (map f xs) → AllPairs (λ a b. R (f a) (f b)) xs
map_pairs {X = X} {Y = Y} f R xs h i j d less inside =
    let long = length-map xs f in
    let within : j < length (map f xs) = omega (arith, inside, long) in
    subst (λ (y : Y). R y (f (get_or xs j d))) (get_or-map f xs i d (f d) (omega (arith, less, inside)))
    (subst (λ (y : Y). R (get_or (map f xs) i (f d)) y) (get_or-map f xs j d (f d) inside) (h i j (f d) less within))

-- an event that begins another operation, or none, and ends another, or none
kept : (events : List Event) (event : Event) (o : Begun) → ((hart : ℕ) → ¬ (event ≡ Begin hart o.op)) → ¬ (ended_by event ≡ Some o.op) →
    IsBegun events o → IsBegun (events ++ event ∷ []) o
kept events event o other open_still h = record {
  begins = Contains-append_left events (event ∷ []) (Begin o.hart o.op) h.begins;
  ends = (
    λ t. in_more ended_by events event o.op (h.ends.0 t),
    λ c. h.ends.1 (elim (from_more ended_by events event o.op c) [ inl d ↦ d | inr e ↦ absurd (open_still e) ]),
  );
  ends_before = λ x. (
    λ c. kept_before events event x o.op ((h.ends_before x).0 c),
    λ e. elim (before_cases events event x o.op e) [ inl d ↦ (h.ends_before x).1 d | inr b ↦ absurd (other b.0 b.1) ],
  );
  in_order = h.in_order;
}

no_number : (op : ℕ) → None ≡ Some op → ⊥
no_number op e = cc

number_of : (a b : ℕ) → Some a ≡ Some b → a ≡ b
number_of a b e = cc

same_begin : (hart op h q : ℕ) → Begin hart op ≡ Begin h q → (hart ≡ h) × (op ≡ q)
same_begin hart op h q e = (cc, cc)

-- the operation of a number
pub found : (events : List Event) (ops : List Begun) (op : ℕ) → AreOperations events ops → Contains (begun events) op → (o : Begun) × Contains ops o × (o.op ≡ op)
found events ops op h c =
    let by = beginner events op c in
    let o = h.all by.0 op by.1 in
    (o.0, o.1, o.2)

pub numbered : (events : List Event) (ops : List Begun) (op : ℕ) → AreOperations events ops → Contains (map (λ o. o.op) ops) op ↔ Contains (begun events) op
numbered events ops op h = (
  λ c.
      let o = from_map (λ (b : Begun). b.op) ops op c in
      subst (λ (q : ℕ). Contains (begun events) q) o.2 (begun_in events o.0.hart o.0.op ((h.each o.0 o.1).begins)),
  λ c.
      let o = found events ops op h c in
      subst (λ (q : ℕ). Contains (map (λ (b : Begun). b.op) ops) q) o.2 (in_map (λ (b : Begun). b.op) ops o.0 o.1),
)

-- those that have ended
pub ended_numbered : (events : List Event) (ops : List Begun) (op : ℕ) → AreOperations events ops →
    Contains (map (λ o. o.op) (filter (λ o. o.has_ended) ops)) op ↔ Contains (ended events) op
ended_numbered events ops op h = (
  λ c.
      let o = from_map (λ (b : Begun). b.op) (filter (λ (b : Begun). b.has_ended) ops) op c in
      let kept = from_filter (λ (b : Begun). b.has_ended) ops o.0 o.1 in
      subst (λ (q : ℕ). Contains (ended events) q) o.2 ((h.each o.0 kept.0).ends.0 (true_of o.0.has_ended kept.1)),
  λ c.
      let o = found events ops op h (ended_begun BetweenHarts events op h.sound c) in
      let over : IsTrue o.0.has_ended = (h.each o.0 o.1).ends.1 (subst (λ (q : ℕ). Contains (ended events) q) (sym o.2) c) in
      subst (λ (q : ℕ). Contains (map (λ (b : Begun). b.op) (filter (λ (b : Begun). b.has_ended) ops)) q) o.2
      (in_map (λ (b : Begun). b.op) (filter (λ (b : Begun). b.has_ended) ops) o.0 (in_filter (λ (b : Begun). b.has_ended) ops o.0 o.1 (is_so o.0.has_ended over))),
)
  where
    is_so : (b : Bool) → IsTrue b → b ≡ true
    is_so true t = refl
    is_so false t = absurd (not_true false refl t)

-- no events
pub no_operations : (ops : List Begun) → ops ≡ [] → AreOperations [] ops
no_operations ops none = subst (λ (os : List Begun). AreOperations [] os) (sym none) (record {
  sound = λ i event fault inside. absurd (omega (arith, inside));
  each = λ o c. absurd (no_members o c);
  all = λ hart op c. absurd (no_members (Begin hart op) c);
  in_order = λ i j d less inside. absurd (omega (arith, inside));
})

-- a Begin
begun_now : (events : List Event) (ops : List Begun) (hart op : ℕ) → AreOperations events ops → ¬ Contains (begun events) op →
    IsBegun (events ++ Begin hart op ∷ []) (begins_in ops hart op)
begun_now events ops hart op h new = record {
  begins = Contains-push events (Begin hart op);
  ends = (
    λ t. absurd (not_true false refl t),
    λ c. elim (from_more ended_by events (Begin hart op) op c) [
      | inl d ↦ absurd (new (ended_begun BetweenHarts events op h.sound d))
      | inr e ↦ absurd (no_number op e)
    ],
  );
  ends_before = λ x. (
    λ c. before_last events hart x op ((ended_numbered events ops x h).0 c),
    λ e. elim (before_cases events (Begin hart op) x op e) [
      | inl d ↦ absurd (new (begun_behind events x op d))
      | inr b ↦ (ended_numbered events ops x h).1 b.2
    ],
  );
  in_order =
      pairs_map (λ (b : Begun). b.op) (λ x y. x < y) (filter (λ (b : Begun). b.has_ended) ops)
      (AllPairs-filter (λ (a b : Begun). a.op < b.op) (λ b. b.has_ended) ops h.in_order);
}

pub begin_operations : (events : List Event) (ops more : List Begun) (hart op : ℕ) → AreOperations events ops →
    ((fault : MarkFault) → ¬ HasHartFault events (Begin hart op) fault) → IsPermutation (begins_in ops hart op ∷ ops) more → AreInOrder more →
    AreOperations (events ++ Begin hart op ∷ []) more
begin_operations events ops more hart op h none moved in_order =
    let new : ¬ Contains (begun events) op = none BegunTwice in
    let one = begins_in ops hart op in
    record {
      sound = no_fault BetweenHarts events (Begin hart op) h.sound none;
      each = λ o c. elim (contains_cases one ops o (Contains-permutation more (one ∷ ops) o (IsPermutation-sym (one ∷ ops) more moved) c)) [
        | inl e ↦ subst (λ (b : Begun). IsBegun (events ++ Begin hart op ∷ []) b) e (begun_now events ops hart op h new)
        | inr d ↦
            let was = h.each o d in
            kept events (Begin hart op) o
            (λ by e. new (subst (λ (q : ℕ). Contains (begun events) q) (sym (same_begin hart op by o.op e).1) (begun_in events o.hart o.op was.begins)))
            (λ e. no_number o.op e) was
      ];
      all = λ by q c. elim (Contains-push_cases events (Begin hart op) (Begin by q) c) [
        | inl d ↦
            let o = h.all by q d in
            (o.0, Contains-permutation (one ∷ ops) more o.0 moved (contains_later one ops o.0 o.1), o.2, o.3)
        | inr e ↦
            let same = same_begin hart op by q e in
            (one, Contains-permutation (one ∷ ops) more one moved (contains_first one ops one refl), same.1, same.0)
      ];
      in_order = in_order;
    }

-- an End
or_cases : (a b : Bool) → IsTrue (a || b) → IsTrue a ⊎ (b ≡ true)
or_cases true b t = inl t
or_cases false true t = inr refl
or_cases false false t = inl t

or_first : (a b : Bool) → IsTrue a → IsTrue (a || b)
or_first true b t = t
or_first false b t = absurd (not_true false refl t)

or_second : (a b : Bool) → b ≡ true → IsTrue (a || b)
or_second true b e = true_of true refl
or_second false b e = true_of b e

ended_now : (events : List Event) (hart op : ℕ) (o : Begun) → IsBegun events o → IsBegun (events ++ End hart op ∷ []) (with_end op o)
ended_now events hart op o h = record {
  begins = Contains-append_left events (End hart op ∷ []) (Begin o.hart o.op) h.begins;
  ends = (
    λ t. elim (or_cases o.has_ended (o.op == op) t) [
      | inl was ↦ in_more ended_by events (End hart op) o.op (h.ends.0 was)
      | inr same ↦ in_last ended_by events (End hart op) o.op (ap (λ (q : ℕ). Some q) (sym (eqb-true o.op op same)))
    ],
    λ c. elim (from_more ended_by events (End hart op) o.op c) [
      | inl d ↦ or_first o.has_ended (o.op == op) (h.ends.1 d)
      | inr e ↦ or_second o.has_ended (o.op == op) (eq-eqb o.op op (sym (number_of op o.op e)))
    ],
  );
  ends_before = λ x. (
    λ c. kept_before events (End hart op) x o.op ((h.ends_before x).0 c),
    λ e. elim (before_cases events (End hart op) x o.op e) [
      | inl d ↦ (h.ends_before x).1 d
      | inr b ↦ absurd (no_number o.op (ap (λ (y : Event). begun_by y) b.1))
    ],
  );
  in_order = h.in_order;
}

pub end_operations : (events : List Event) (ops : List Begun) (hart op : ℕ) → AreOperations events ops →
    ((fault : MarkFault) → ¬ HasHartFault events (End hart op) fault) → AreOperations (events ++ End hart op ∷ []) (map (with_end op) ops)
end_operations events ops hart op h none = record {
  sound = no_fault BetweenHarts events (End hart op) h.sound none;
  each = λ o c.
      let from = from_map (with_end op) ops o c in
      subst (λ (b : Begun). IsBegun (events ++ End hart op ∷ []) b) from.2 (ended_now events hart op from.0 (h.each from.0 from.1));
  all = λ by q c. elim (Contains-push_cases events (End hart op) (Begin by q) c) [
    | inl d ↦ let o = h.all by q d in (with_end op o.0, in_map (with_end op) ops o.0 o.1, o.2, o.3)
    | inr e ↦ absurd (no_number q (ap (λ (y : Event). begun_by y) e))
  ];
  in_order = pairs_map (with_end op) (λ a b. a.op < b.op) ops h.in_order;
}

-- an event that is no mark
pub other_operations : (events : List Event) (event : Event) (ops : List Begun) → begun_by event ≡ None → ended_by event ≡ None →
    AreOperations events ops → AreOperations (events ++ event ∷ []) ops
other_operations events event ops b e h = record {
  sound = no_fault BetweenHarts events event h.sound (other_faultless BetweenHarts events event b e);
  each = λ o c.
      kept events event o (λ hart is. no_number o.op (sym b ∙ ap (λ (y : Event). begun_by y) is)) (λ is. no_number o.op (sym e ∙ is)) (h.each o c);
  all = λ by q c. elim (Contains-push_cases events event (Begin by q) c) [
    | inl d ↦ h.all by q d
    | inr is ↦ absurd (no_number q (sym b ∙ ap (λ (y : Event). begun_by y) is))
  ];
  in_order = h.in_order;
}

-- the operations after one event more
pub begins_next : (events : List Event) (ops more : List Begun) (mark : Event) (hart op : ℕ) → mark ≡ Begin hart op → AreOperations events ops →
    ((fault : MarkFault) → ¬ HasHartFault events mark fault) →
    IsPermutation (begins_in ops hart op ∷ ops) more × (AreInOrder ops → ¬ Contains (map (λ b. b.op) ops) op → AreInOrder more) →
    AreOperations (events ++ mark ∷ []) more
begins_next events ops more mark hart op is h none both =
    let faultless : (fault : MarkFault) → ¬ HasHartFault events (Begin hart op) fault =
    subst (λ (m : Event). (fault : MarkFault) → ¬ HasHartFault events m fault) is none in
    subst (λ (m : Event). AreOperations (events ++ m ∷ []) more) (sym is)
    (begin_operations events ops more hart op h faultless both.0 (both.1 h.in_order (λ c. faultless BegunTwice ((numbered events ops op h).0 c))))

pub ends_next : (events : List Event) (ops more : List Begun) (mark : Event) (hart op : ℕ) → mark ≡ End hart op → AreOperations events ops →
    ((fault : MarkFault) → ¬ HasHartFault events mark fault) → more ≡ map (with_end op) ops → AreOperations (events ++ mark ∷ []) more
ends_next events ops more mark hart op is h none made =
    let faultless : (fault : MarkFault) → ¬ HasHartFault events (End hart op) fault =
    subst (λ (m : Event). (fault : MarkFault) → ¬ HasHartFault events m fault) is none in
    subst (λ (m : Event). AreOperations (events ++ m ∷ []) more) (sym is)
    (subst (λ (os : List Begun). AreOperations (events ++ End hart op ∷ []) os) (sym made) (end_operations events ops hart op h faultless))

abbrev IsOther : Event → Type 0
IsOther event =
    ((hart : ℕ) × (line : ℕ) × (offset : ℕ) × (width : ℕ) × (value : ℕ) × (event ≡ Store hart line offset width value))
    ⊎ (((hart : ℕ) × (line : ℕ) × (event ≡ Clean hart line)) ⊎ ((hart : ℕ) × (event ≡ Fence hart)))

no_mark : (event : Event) → IsOther event → (begun_by event ≡ None) × (ended_by event ≡ None)
no_mark event o = elim o [
  | inl s ↦ let e = s.5 in (ap (λ (x : Event). begun_by x) e, ap (λ (x : Event). ended_by x) e)
  | inr r ↦ elim r [
    | inl c ↦ let e = c.2 in (ap (λ (x : Event). begun_by x) e, ap (λ (x : Event). ended_by x) e)
    | inr f ↦ let e = f.1 in (ap (λ (x : Event). begun_by x) e, ap (λ (x : Event). ended_by x) e)
  ]
]

pub others_next : (events : List Event) (ops more : List Begun) (mark : Event) → IsOther mark → AreOperations events ops → more ≡ ops →
    AreOperations (events ++ mark ∷ []) more
others_next events ops more mark is h made =
    let none = no_mark mark is in
    subst (λ (os : List Begun). AreOperations (events ++ mark ∷ []) os) (sym made) (other_operations events mark ops none.0 none.1 h)
