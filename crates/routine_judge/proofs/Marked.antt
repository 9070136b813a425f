-- The operations of some events, one event more.
use Rattle.std.proofs.Common.{◌≡◌, ◌⊎◌, ℕ, zero, suc, Bool, true, false, not, inl, inr, List, [], ◌∷◌, ◌++◌, length, refl, sym, ap, ◌∙◌, subst, arith, Option, Some, None, true≢false, eqb-true, eq-eqb, rules}
use Rattle.std.specs.Prelude.{◌↔◌, ◌==◌, ◌||◌, IsTrue}
use Rattle.std.specs.BTreeMap as tree
use Rattle.std.specs.BTreeSet as set
use Rattle.std.specs.List.{Contains, cons_option, filter_map, list_any}
use Rattle.std.specs.Map.{lookup}
use Rattle.std.specs.Ordering.{is_eq, nat_cmp}
use Rattle.std.proofs.lemmas.Bool.{cases_Bool}
use Rattle.std.proofs.lemmas.Bool.Decides.{nat_tests}
use Rattle.std.proofs.lemmas.Map.Lookups.{exact_unsigned}
use Rattle.std.proofs.lemmas.Map.Made.{Contains-from_values_of, Contains-values_of}
use Rattle.std.proofs.lemmas.Map.Views.{btree_map_get_iff}
use Rattle.std.proofs.lemmas.Cmp.{nat_cmp_total}
use Rattle.std.proofs.lemmas.List.Elements.{Contains-append_cases, Contains-append_left, Contains-append_right, filter_map-append}
use Rattle.store_trace.proofs.Marking.{open_true, open_unended}
use Rattle.store_trace.proofs.Members.{contains_cases, contains_first, contains_later, from_filter, from_mapped, from_some, in_filter, mapped_here, no_members}
use Rattle.store_trace.specs.Marks.{begun, begun_by, ended_by, is_open}
use Rattle.routine_judge.specs.MarkFaults.{SomePending}
use Rattle.routine_judge.specs.Operations.{AreMarked, IsPendingBy}
use Rattle.routine_judge.specs.declared.history.operations.Operations.{Operations}
use Rattle.store_trace.specs.declared.event.Event.{Event}
use Rattle.store_trace.specs.declared.event.Event.TheVariants.{Store, Clean, Fence, Begin, End}

pub no_number : (op : ℕ) → None ≡ Some op → ⊥
no_number op e = cc

pub number_of : (a b : ℕ) → Some a ≡ Some b → a ≡ b
number_of a b e = cc

same_begin : (hart op h q : ℕ) → Begin hart op ≡ Begin h q → (hart ≡ h) × (op ≡ q)
same_begin hart op h q e = (cc, cc)

same_mark : (hart op h q : ℕ) → hart ≡ h → op ≡ q → Begin hart op ≡ Begin h q
same_mark hart op h q e f = cc

zero_or_more : (n : ℕ) → (n ≡ 0) ⊎ (n ≡ 0 → ⊥)
zero_or_more zero = inl refl
zero_or_more (suc n) = inr (λ e. omega (arith, e))

-- what the events give with one more, by what that one gives
more : (h : Event → Option ℕ) (before : List Event) (event : Event) → filter_map h (before ++ event ∷ []) ≡ filter_map h before ++ cons_option (h event) []
more h before event = filter_map-append h before (event ∷ [])

from_more : (h : Event → Option ℕ) (before : List Event) (event : Event) (op : ℕ) → Contains (filter_map h (before ++ event ∷ [])) op →
    Contains (filter_map h before) op ⊎ (h event ≡ Some op)
from_more h before event op c =
    elim (Contains-append_cases (filter_map h before) (cons_option (h event) []) op (subst (λ (ops : List ℕ). Contains ops op) (more h before event) c)) [
      | inl a ↦ inl a
      | inr b ↦ elim (from_some (h event) [] op b) [ inl here ↦ inr here | inr z ↦ absurd (no_members op z) ]
    ]

in_more : (h : Event → Option ℕ) (before : List Event) (event : Event) (op : ℕ) → Contains (filter_map h before) op →
    Contains (filter_map h (before ++ event ∷ [])) op
in_more h before event op c =
    subst (λ (ops : List ℕ). Contains ops op) (sym (more h before event)) (Contains-append_left (filter_map h before) (cons_option (h event) []) op c)

in_last : (h : Event → Option ℕ) (before : List Event) (event : Event) (op : ℕ) → h event ≡ Some op → Contains (filter_map h (before ++ event ∷ [])) op
in_last h before event op here =
    let one : cons_option (h event) [] ≡ op ∷ [] = ap (λ (o : Option ℕ). cons_option o []) here in
    subst (λ (ops : List ℕ). Contains ops op) (sym (more h before event))
    (Contains-append_right (filter_map h before) (cons_option (h event) []) op (subst (λ (ops : List ℕ). Contains ops op) (sym one) (contains_first op [] op refl)))

event_cases : (before : List Event) (event one : Event) → Contains (before ++ event ∷ []) one → Contains before one ⊎ (event ≡ one)
event_cases before event one c = elim (Contains-append_cases before (event ∷ []) one c) [
  | inl a ↦ inl a
  | inr b ↦ elim (contains_cases event [] one b) [ inl here ↦ inr here | inr z ↦ absurd (no_members one z) ]
]

-- what begins is among the begun
begins_begun : (before : List Event) (hart op : ℕ) → Contains before (Begin hart op) → Contains (begun before) op
begins_begun before hart op c = mapped_here begun_by before c.0 (Begin hart op) op c.1 (ap (λ (e : Event). begun_by e) c.2)

-- a pending operation is one of the begun that haven't ended
pending_some : (before : List Event) (hart op : ℕ) → IsPendingBy before hart op → SomePending before
pending_some before hart op p = (op, in_filter (is_open before) (begun before) op (begins_begun before hart op p.0) (open_true before op p.1))

pub begin_of : (event : Event) (op : ℕ) → begun_by event ≡ Some op → (hart : ℕ) × (event ≡ Begin hart op)
begin_of (Store hart line offset width value) op e = absurd cc
begin_of (Clean hart line) op e = absurd cc
begin_of (Fence hart) op e = absurd cc
begin_of (Begin hart other) op e = (hart, let same : other ≡ op = cc in ap (λ (o : ℕ). Begin hart o) same)
begin_of (End hart other) op e = absurd cc

some_pending : (before : List Event) → SomePending before → (hart : ℕ) × (op : ℕ) × IsPendingBy before hart op
some_pending before s =
    let kept = from_filter (is_open before) (begun before) s.0 s.1 in
    let from = from_mapped begun_by before s.0 kept.0 in
    let begins = begin_of from.0 s.0 from.2 in
    (begins.0, s.0, (subst (λ (e : Event). Contains before e) begins.1 from.1, open_unended before s.0 kept.1))

-- tests of a set
is_true : IsTrue true
is_true = search rules

is_false : ¬ IsTrue false
is_false t = search (rules, t)

pub not_true : (b : Bool) → b ≡ false → IsTrue b → ⊥
not_true b e t = is_false (subst (λ (x : Bool). IsTrue x) e t)

pub true_of : (b : Bool) → b ≡ true → IsTrue b
true_of b e = subst (λ (x : Bool). IsTrue x) (sym e) is_true

pub was_begun : (before : List Event) (now : Operations) (op : ℕ) → AreMarked before now → set.contains nat_cmp now.begun op ≡ true → Contains (begun before) op
was_begun before now op a e = (a.each_begun op).0 (subst (λ (b : Bool). IsTrue b) (sym e) is_true)

pub never_begun : (before : List Event) (now : Operations) (op : ℕ) → AreMarked before now → set.contains nat_cmp now.begun op ≡ false → ¬ Contains (begun before) op
never_begun before now op a e c = is_false (subst (λ (b : Bool). IsTrue b) e ((a.each_begun op).1 c))

-- an entry of a map, where there is one
same_key : (k : ℕ) → is_eq (nat_cmp k k) ≡ true
same_key k = grind (arith, nat_tests)

other_key : (k q : ℕ) → (k ≡ q → ⊥) → is_eq (nat_cmp k q) ≡ false
other_key k q other = grind (arith, nat_tests)

same_or_other : (k q : ℕ) → (k ≡ q) ⊎ (k ≡ q → ⊥)
same_or_other k q = elim (cases_Bool (k == q)) [
  | inl e ↦ inl (eqb-true k q e)
  | inr e ↦ inr (λ same. true≢false (sym (eq-eqb k q same) ∙ e))
]

first_got : (es : List (ℕ × ℕ)) → (length es ≡ 0 → ⊥) → (op : ℕ) × (hart : ℕ) × (lookup (tree.is_at (nat_cmp op)) es ≡ Some hart)
first_got [] some = absurd (some refl)
first_got (e ∷ es) some = (e.0, e.1, rw (same_key e.0) refl)

none_got : (es : List (ℕ × ℕ)) (op hart : ℕ) → length es ≡ 0 → lookup (tree.is_at (nat_cmp op)) es ≡ Some hart → ⊥
none_got [] op hart none e = absurd cc
none_got (x ∷ es) op hart none e = absurd (omega (arith, none))

pub none_pending : (before : List Event) (now : Operations) → AreMarked before now → tree.btree_map_len now.pending ≡ 0 → ¬ SomePending before
none_pending before now a none s =
    let p = some_pending before s in
    none_got now.pending.entries p.1 p.0 none ((a.each_pending p.1 p.0).1 p.2)

pub one_pending : (before : List Event) (now : Operations) → AreMarked before now → (tree.btree_map_len now.pending ≡ 0 → ⊥) → SomePending before
one_pending before now a some =
    let got = first_got now.pending.entries some in
    pending_some before got.1 got.0 ((a.each_pending got.0 got.1).0 got.2)

-- an operation of a hart is pending, as the map's values tell
or_parts : (a b : Bool) → (a || b) ≡ true → (a ≡ true) ⊎ (b ≡ true)
or_parts true b e = inl refl
or_parts false b e = inr e

or_here : (a b : Bool) → a ≡ true → (a || b) ≡ true
or_here true b e = refl
or_here false b e = absurd cc

or_there : (a b : Bool) → b ≡ true → (a || b) ≡ true
or_there true b e = refl
or_there false b e = e

any_value : (xs : List ℕ) (x : ℕ) → list_any (λ y. y == x) xs ≡ true → Contains xs x
any_value [] x e = absurd cc
any_value (y ∷ ys) x e = elim (or_parts (y == x) (list_any (λ z. z == x) ys) e) [
  | inl here ↦ contains_first y ys x (eqb-true y x here)
  | inr there ↦ contains_later y ys x (any_value ys x there)
]

value_any : (xs : List ℕ) (x : ℕ) → Contains xs x → list_any (λ y. y == x) xs ≡ true
value_any [] x c = absurd (no_members x c)
value_any (y ∷ ys) x c = elim (contains_cases y ys x c) [
  | inl here ↦ or_here (y == x) (list_any (λ z. z == x) ys) (eq-eqb y x here)
  | inr there ↦ or_there (y == x) (list_any (λ z. z == x) ys) (value_any ys x there)
]

pub hart_pending : (before : List Event) (now : Operations) (hart : ℕ) (any : Bool) → AreMarked before now → tree.IsOrdered nat_cmp now.pending →
    any ≡ list_any (λ beginner. beginner == hart) (tree.values now.pending) → IsTrue any ↔ ((other : ℕ) × IsPendingBy before hart other)
hart_pending before now hart any a ordered is = (
  λ t.
      let e = Contains-from_values_of now.pending.entries hart (any_value (tree.values now.pending) hart (sym is ∙ t)) in
      (e.0, (a.each_pending e.0 hart).0 ((btree_map_get_iff nat_cmp_total exact_unsigned now.pending ordered e.0 hart).1 e.1)),
  λ p.
      let c = (btree_map_get_iff nat_cmp_total exact_unsigned now.pending ordered p.0 hart).0 ((a.each_pending p.0 hart).1 p.1) in
      is ∙ value_any (tree.values now.pending) hart (Contains-values_of now.pending.entries p.0 hart c),
)

-- an operation is pending, as the map's length tells
pub some_told : (before : List Event) (now : Operations) (none : Bool) → AreMarked before now → IsTrue none ↔ (tree.btree_map_len now.pending ≡ 0) →
    IsTrue (not none) ↔ SomePending before
some_told before now true a is = (λ t. absurd (not_true false refl t), λ s. absurd (none_pending before now a (is.0 is_true) s))
some_told before now false a is = (λ t. one_pending before now a (λ e. is_false (is.1 e)), λ s. is_true)

first_key : (ks : List ℕ) → (length ks ≡ 0 → ⊥) → (op : ℕ) × (list_any (tree.is_at (nat_cmp op)) ks ≡ true)
first_key [] some = absurd (some refl)
first_key (k ∷ ks) some = (k, rw (same_key k) refl)

no_key : (ks : List ℕ) (op : ℕ) → length ks ≡ 0 → list_any (tree.is_at (nat_cmp op)) ks ≡ false
no_key [] op none = refl
no_key (k ∷ ks) op none = absurd (omega (arith, none))

no_operations : (ops : List ℕ) → ((op : ℕ) → ¬ Contains ops op) → ops ≡ []
no_operations [] none = refl
no_operations (op ∷ ops) none = absurd (none op (contains_first op ops op refl))

pub none_began : (before : List Event) (now : Operations) → AreMarked before now → (set.btree_set_len now.begun ≡ 0) ↔ (begun before ≡ [])
none_began before now a = (
  λ none. no_operations (begun before) (λ op. never_begun before now op a (no_key now.begun.keys op none)),
  λ empty. elim (zero_or_more (set.btree_set_len now.begun)) [
    | inl none ↦ none
    | inr some ↦
        let first = first_key now.begun.keys some in
        absurd (no_members first.0 (subst (λ (ops : List ℕ). Contains ops first.0) empty (was_begun before now first.0 a first.1)))
  ],
)

-- no events
pub none_marked : (now : Operations) → now.begun.keys ≡ [] → now.pending.entries ≡ [] → AreMarked [] now
none_marked now keys entries = record {
  each_begun = λ op. (
    λ t. absurd (is_false (subst (λ (b : Bool). IsTrue b) (no_key now.begun.keys op (ap (λ (ks : List ℕ). length ks) keys)) t)),
    λ c. absurd (no_members op c),
  );
  each_pending = λ op hart. (
    λ got. absurd (none_got now.pending.entries op hart (ap (λ (es : List (ℕ × ℕ)). length es) entries) got),
    λ p. absurd (no_members (Begin hart op) p.0),
  );
  each_ended = λ op c. absurd (no_members op c);
}

-- an event that is no mark
pub other_marked : (before : List Event) (event : Event) (now : Operations) → begun_by event ≡ None → ended_by event ≡ None →
    AreMarked before now → AreMarked (before ++ event ∷ []) now
other_marked before event now begins ends a = record {
  each_begun = λ q. (
    λ t. in_more begun_by before event q ((a.each_begun q).0 t),
    λ c. elim (from_more begun_by before event q c) [ inl b ↦ (a.each_begun q).1 b | inr e ↦ absurd (no_number q (sym begins ∙ e)) ],
  );
  each_pending = λ q h. (
    λ got. let p = (a.each_pending q h).0 got in (
      Contains-append_left before (event ∷ []) (Begin h q) p.0,
      λ c. elim (from_more ended_by before event q c) [ inl b ↦ p.1 b | inr e ↦ no_number q (sym ends ∙ e) ],
    ),
    λ p. elim (event_cases before event (Begin h q) p.0) [
      | inl b ↦ (a.each_pending q h).1 (b, λ d. p.1 (in_more ended_by before event q d))
      | inr e ↦ absurd (no_number q (sym begins ∙ ap (λ (x : Event). begun_by x) e))
    ],
  );
  each_ended = λ q c. in_more begun_by before event q (a.each_ended q (elim (from_more ended_by before event q c) [ inl b ↦ b | inr e ↦ absurd (no_number q (sym ends ∙ e)) ]));
}

-- the operation that begins
begun_here : (before : List Event) (hart op q : ℕ) (now : Operations) → set.contains nat_cmp now.begun op ≡ true → op ≡ q →
    IsTrue (set.contains nat_cmp now.begun q) ↔ Contains (begun (before ++ Begin hart op ∷ [])) q
begun_here before hart op q now here same = (
  λ t. in_last begun_by before (Begin hart op) q (ap (λ (k : ℕ). Some k) same),
  λ c. subst (λ (b : Bool). IsTrue b) (sym here ∙ ap (λ (k : ℕ). set.contains nat_cmp now.begun k) same) is_true,
)

pending_here : (before : List Event) (hart op q h : ℕ) (old now : Operations) → tree.get nat_cmp now.pending op ≡ Some hart → ¬ Contains (begun before) op →
    AreMarked before old → op ≡ q → (tree.get nat_cmp now.pending q ≡ Some h) ↔ IsPendingBy (before ++ Begin hart op ∷ []) h q
pending_here before hart op q h old now here new a same =
    let got : tree.get nat_cmp now.pending q ≡ Some hart = ap (λ (k : ℕ). tree.get nat_cmp now.pending k) (sym same) ∙ here in
    let other : ¬ Contains (begun before) q = subst (λ (k : ℕ). ¬ Contains (begun before) k) same new in (
      λ is. (
        Contains-append_right before (Begin hart op ∷ []) (Begin h q)
            (contains_first (Begin hart op) [] (Begin h q) (same_mark hart op h q (number_of hart h (sym got ∙ is)) same)),
        λ c. elim (from_more ended_by before (Begin hart op) q c) [ inl b ↦ other (a.each_ended q b) | inr e ↦ no_number q e ],
      ),
      λ p. elim (event_cases before (Begin hart op) (Begin h q) p.0) [
        | inl b ↦ absurd (other (begins_begun before h q b))
        | inr e ↦ got ∙ ap (λ (k : ℕ). Some k) (same_begin hart op h q e).0
      ],
    )

-- a Begin
pub begin_marked : (before : List Event) (hart op : ℕ) (old now : Operations) → set.Updates nat_cmp old.begun now.begun op true →
    tree.Updates nat_cmp old.pending now.pending op (Some hart) → ¬ Contains (begun before) op →
    AreMarked before old → AreMarked (before ++ Begin hart op ∷ []) now
begin_marked before hart op old now keys entries new a = record {
  each_begun = λ q. elim (same_or_other op q) [
    | inl same ↦ begun_here before hart op q now keys.1 same
    | inr other ↦
        let kept : set.contains nat_cmp now.begun q ≡ set.contains nat_cmp old.begun q = keys.2 q (other_key op q other) in (
          λ t. in_more begun_by before (Begin hart op) q ((a.each_begun q).0 (subst (λ (b : Bool). IsTrue b) kept t)),
          λ c. subst (λ (b : Bool). IsTrue b) (sym kept) ((a.each_begun q).1 (elim (from_more begun_by before (Begin hart op) q c) [
            | inl b ↦ b
            | inr e ↦ absurd (other (number_of op q e))
          ])),
        )
  ];
  each_pending = λ q h. elim (same_or_other op q) [
    | inl same ↦ pending_here before hart op q h old now entries.1 new a same
    | inr other ↦
        let kept : tree.get nat_cmp now.pending q ≡ tree.get nat_cmp old.pending q = entries.2 q (other_key op q other) in (
          λ got. let p = (a.each_pending q h).0 (sym kept ∙ got) in (
            Contains-append_left before (Begin hart op ∷ []) (Begin h q) p.0,
            λ c. elim (from_more ended_by before (Begin hart op) q c) [ inl b ↦ p.1 b | inr e ↦ no_number q e ],
          ),
          λ p. elim (event_cases before (Begin hart op) (Begin h q) p.0) [
            | inl b ↦ kept ∙ (a.each_pending q h).1 (b, λ d. p.1 (in_more ended_by before (Begin hart op) q d))
            | inr e ↦ absurd (other (same_begin hart op h q e).1)
          ],
        )
  ];
  each_ended = λ q c. in_more begun_by before (Begin hart op) q (a.each_ended q (elim (from_more ended_by before (Begin hart op) q c) [ inl b ↦ b | inr e ↦ absurd (no_number q e) ]));
}

-- an End
pub end_marked : (before : List Event) (hart op : ℕ) (old now : Operations) → now.begun ≡ old.begun →
    tree.Updates nat_cmp old.pending now.pending op None → Contains (begun before) op →
    AreMarked before old → AreMarked (before ++ End hart op ∷ []) now
end_marked before hart op old now keys entries begins a = record {
  each_begun = λ q. let same : set.contains nat_cmp now.begun q ≡ set.contains nat_cmp old.begun q = ap (λ (s : set.BTreeSet ℕ). set.contains nat_cmp s q) keys in (
    λ t. in_more begun_by before (End hart op) q ((a.each_begun q).0 (subst (λ (b : Bool). IsTrue b) same t)),
    λ c. subst (λ (b : Bool). IsTrue b) (sym same) ((a.each_begun q).1 (elim (from_more begun_by before (End hart op) q c) [ inl b ↦ b | inr e ↦ absurd (no_number q e) ])),
  );
  each_pending = λ q h. elim (same_or_other op q) [
    | inl same ↦ (
      λ got. absurd (no_number h (sym entries.1 ∙ ap (λ (k : ℕ). tree.get nat_cmp now.pending k) same ∙ got)),
      λ p. absurd (p.1 (in_last ended_by before (End hart op) q (ap (λ (k : ℕ). Some k) same))),
    )
    | inr other ↦
        let kept : tree.get nat_cmp now.pending q ≡ tree.get nat_cmp old.pending q = entries.2 q (other_key op q other) in (
          λ got. let p = (a.each_pending q h).0 (sym kept ∙ got) in (
            Contains-append_left before (End hart op ∷ []) (Begin h q) p.0,
            λ c. elim (from_more ended_by before (End hart op) q c) [ inl b ↦ p.1 b | inr e ↦ other (number_of op q e) ],
          ),
          λ p. elim (event_cases before (End hart op) (Begin h q) p.0) [
            | inl b ↦ kept ∙ (a.each_pending q h).1 (b, λ d. p.1 (in_more ended_by before (End hart op) q d))
            | inr e ↦ absurd (no_number q (ap (λ (x : Event). begun_by x) e))
          ],
        )
  ];
  each_ended = λ q c. in_more begun_by before (End hart op) q (elim (from_more ended_by before (End hart op) q c) [
    | inl b ↦ a.each_ended q b
    | inr e ↦ subst (λ (k : ℕ). Contains (begun before) k) (number_of op q e) begins
  ]);
}

-- an operation that isn't not pending has begun
pub end_begun : (before : List Event) (now : Operations) (hart op : ℕ) → AreMarked before now → ¬ (¬ IsPendingBy before hart op) → Contains (begun before) op
end_begun before now hart op a twice = elim (cases_Bool (set.contains nat_cmp now.begun op)) [
  | inl e ↦ was_begun before now op a e
  | inr e ↦ absurd (twice (λ p. never_begun before now op a e (begins_begun before hart op p.0)))
]
