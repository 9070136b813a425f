-- Lists of entries: copies, an entry more, and the entry of an operation.
use Rattle.std.proofs.Common.{◌≡◌, ◌⊎◌, ℕ, ◌+◌, ◌<◌, ◌≤◌, Bool, true, false, not, cond, inl, inr, List, [], ◌∷◌, ◌++◌, length, get_or, take, drop, map, refl, sym, ap, ◌∙◌, subst, arith, Option, Some, None, IsPermutation, Bor, eqb-true, eq-eqb, true≢false}
use Rattle.std.specs.Prelude.{◌↔◌, ◌==◌, ◌&&◌, ◌||◌, IsTrue, MatchOption, filter, is_some, slice_get}
use Rattle.std.specs.List.{AllPairs, Contains, insert, list_all}
use Rattle.std.specs.List.Sorted.{IsPartitionPoint}
use Rattle.std.proofs.lemmas.Bool.{cases_Bool, cases_lt}
use Rattle.std.proofs.lemmas.List.{drop-map, get_or_default, map-append, map_more, map_push, take-map}
use Rattle.std.proofs.lemmas.List.Elements.{Contains-push_cases, filter-append}
use Rattle.std.proofs.lemmas.List.Sorted.{IsPermutation-insert}
use Rattle.std.proofs.lemmas.Option.{get_or_from_slice_get, slice_get_read, slice_get_within}
use Rattle.store_trace.proofs.Members.{contains_cases, contains_first, contains_later, no_members}
use Rattle.store_trace.specs.Marks.{begun, ended}
use Rattle.image_check.proofs.Rising.{found_at, placed}
use Rattle.routine_judge.proofs.Preceding.{from_map, in_map, map_pairs, numbered, pairs_map}
use Rattle.routine_judge.proofs.Sequencing.{has_so, so_has}
use Rattle.routine_judge.specs.Fitting.{HasAllEnded, MayFollow, has}
use Rattle.routine_judge.specs.Operations.{IsPendingBy}
use Rattle.routine_judge.specs.Order.{AreInOrder, AreOperations, Begun, begins_in, begun_of, has_pending}
use Rattle.routine_judge.specs.declared.order.entry.Entry.{Entry}
use Rattle.routine_judge.specs.declared.order.operation.Operation.{Operation}
use Rattle.store_trace.specs.declared.event.Event.{Event}
use Rattle.store_trace.specs.declared.event.Event.TheVariants.{Begin}

-- copies, one further
pub copied_more : (f : Begun → Begun) (entries copies : List Entry) (i : ℕ) (entry copy : Entry) → i < length entries → entry ≡ get_or entries i entry →
    map begun_of copies ≡ map f (map begun_of (take i entries)) → begun_of copy ≡ f (begun_of entry) →
    map begun_of (copies ++ copy ∷ []) ≡ map f (map begun_of (take (i + 1) entries))
copied_more f entries copies i entry copy inside at so same =
    map_push begun_of copies copy
    ∙ ap (λ (bs : List Begun). bs ++ begun_of copy ∷ []) so
    ∙ ap (λ (b : Begun). map f (map begun_of (take i entries)) ++ b ∷ []) (same ∙ ap (λ (e : Entry). f (begun_of e)) at)
    ∙ sym (map_push f (map begun_of (take i entries)) (begun_of (get_or entries i entry)))
    ∙ ap (λ (bs : List Begun). map f bs) (sym (map_more begun_of entries i entry inside))

pub copied_next : (entries copies : List Entry) (i : ℕ) (entry copy : Entry) → i < length entries → entry ≡ get_or entries i entry →
    map begun_of copies ≡ map begun_of (take i entries) → begun_of copy ≡ begun_of entry → map begun_of (copies ++ copy ∷ []) ≡ map begun_of (take (i + 1) entries)
copied_next entries copies i entry copy inside at so same =
    map_push begun_of copies copy
    ∙ ap (λ (bs : List Begun). bs ++ begun_of copy ∷ []) so
    ∙ ap (λ (b : Begun). map begun_of (take i entries) ++ b ∷ []) (same ∙ ap (λ (e : Entry). begun_of e) at)
    ∙ sym (map_more begun_of entries i entry inside)

-- the operations that have ended, one entry further
ended_last : (b : Begun) (so : Bool) → b.has_ended ≡ so →
    map (λ (o : Begun). o.op) (filter (λ (o : Begun). o.has_ended) (b ∷ [])) ≡ cond so (b.op ∷ []) []
ended_last b so e =
    ap (λ (t : Bool). map (λ (o : Begun). o.op) (cond t (b ∷ []) [])) e ∙ by_so so
  where
    by_so : (t : Bool) → map (λ (o : Begun). o.op) (cond t (b ∷ []) []) ≡ cond t (b.op ∷ []) []
    by_so true = refl
    by_so false = refl

pub ended_more : (entries : List Entry) (i : ℕ) (d : Entry) (so : Bool) → i < length entries → (get_or entries i d).ended ≡ so →
    map (λ (o : Begun). o.op) (filter (λ (o : Begun). o.has_ended) (map begun_of (take (i + 1) entries)))
    ≡ map (λ (o : Begun). o.op) (filter (λ (o : Begun). o.has_ended) (map begun_of (take i entries))) ++ cond so ((get_or entries i d).op ∷ []) []
ended_more entries i d so inside e =
    let b : Begun = begun_of (get_or entries i d) in
    ap (λ (bs : List Begun). map (λ (o : Begun). o.op) (filter (λ (o : Begun). o.has_ended) bs)) (map_more begun_of entries i d inside)
    ∙ ap (λ (bs : List Begun). map (λ (o : Begun). o.op) bs) (filter-append (λ (o : Begun). o.has_ended) (map begun_of (take i entries)) (b ∷ []))
    ∙ map-append (λ (o : Begun). o.op) (filter (λ (o : Begun). o.has_ended) (map begun_of (take i entries))) (filter (λ (o : Begun). o.has_ended) (b ∷ []))
    ∙ ap (λ (ops : List ℕ). map (λ (o : Begun). o.op) (filter (λ (o : Begun). o.has_ended) (map begun_of (take i entries))) ++ ops) (ended_last b so e)

-- an entry more, where it belongs
map_insert : (f : Entry → Begun) (xs : List Entry) (p : ℕ) (x : Entry) → map f (insert xs p x) ≡ insert (map f xs) p (f x)
map_insert f xs p x =
    map-append f (take p xs) (x ∷ drop p xs)
    ∙ ap (λ (bs : List Begun). bs ++ f x ∷ map f (drop p xs)) (sym (take-map f p xs))
    ∙ ap (λ (bs : List Begun). take p (map f xs) ++ f x ∷ bs) (sym (drop-map f p xs))

pub entered : (ops : List Begun) (copies new : List Entry) (p : ℕ) (entry : Entry) (b : Begun) → map begun_of copies ≡ ops → begun_of entry ≡ b → new ≡ insert copies p entry →
    IsPermutation (b ∷ ops) (map begun_of new)
entered ops copies new p entry b same is made =
    subst (λ (bs : List Begun). IsPermutation (b ∷ ops) bs)
    (sym (ap (λ (es : List Entry). map begun_of es) made ∙ map_insert begun_of copies p entry ∙ ap (λ (bs : List Begun). insert bs p (begun_of entry)) same
    ∙ ap (λ (c : Begun). insert ops p c) is))
    (IsPermutation-insert ops p b)

pub entered_in_order : (ops : List Begun) (copies new : List Entry) (p : ℕ) (entry : Entry) → map begun_of copies ≡ ops → p ≤ length copies →
    (AllPairs (λ one other. one.op < other.op) copies → IsPartitionPoint (λ e. e.op < entry.op) (λ e. entry.op ≤ e.op) copies p) → new ≡ insert copies p entry →
    AreInOrder ops → ¬ Contains (map (λ b. b.op) ops) entry.op → AreInOrder (map begun_of new)
entered_in_order ops copies new p entry same within point made h fresh =
    let rises : AllPairs (λ (one other : Entry). one.op < other.op) copies =
    map_pairs begun_of (λ (one other : Begun). one.op < other.op) copies (subst (λ (bs : List Begun). AreInOrder bs) (sym same) h) in
    let lacks : ¬ Contains (map (λ (e : Entry). e.op) copies) entry.op = λ c.
    let e = from_map (λ (x : Entry). x.op) copies entry.op c in
    let among : Contains (map (λ (b : Begun). b.op) (map begun_of copies)) e.0.op =
    in_map (λ (b : Begun). b.op) (map begun_of copies) (begun_of e.0) (in_map begun_of copies e.0 e.1) in
    fresh (subst (λ (bs : List Begun). Contains (map (λ (b : Begun). b.op) bs) entry.op) same
    (subst (λ (q : ℕ). Contains (map (λ (b : Begun). b.op) (map begun_of copies)) q) e.2 among)) in
    pairs_map begun_of (λ (one other : Begun). one.op < other.op) new
    (placed (λ (e : Entry). e.op) copies new p entry within (point rises) made rises lacks)

-- the entry of an operation
found_there : (entries seen : List Entry) (p op : ℕ) → seen ≡ entries →
    (AllPairs (λ one other. one.op < other.op) seen → IsPartitionPoint (λ e. e.op < op) (λ e. op ≤ e.op) seen p) →
    AreInOrder (map begun_of entries) → Contains (map (λ b. b.op) (map begun_of entries)) op → (e : Entry) × (slice_get entries p ≡ Some e) × (e.op ≡ op)
found_there entries seen p op same point h c =
    let b = from_map (λ (x : Begun). x.op) (map begun_of entries) op c in
    let e = from_map begun_of entries b.0 b.1 in
    let its : e.0.op ≡ op = ap (λ (x : Begun). x.op) e.2 ∙ b.2 in
    let rises : AllPairs (λ (one other : Entry). one.op < other.op) entries = map_pairs begun_of (λ (one other : Begun). one.op < other.op) entries h in
    let here : IsPartitionPoint (λ (x : Entry). x.op < op) (λ (x : Entry). op ≤ x.op) entries p =
    subst (λ (es : List Entry). AllPairs (λ (one other : Entry). one.op < other.op) es → IsPartitionPoint (λ (x : Entry). x.op < op) (λ (x : Entry). op ≤ x.op) es p)
    same point rises in
    (e.0, found_at (λ (x : Entry). x.op) entries p op rises here e.0 its e.1, its)

pub other_there : (entries seen got : List Entry) (p op : ℕ) (u : Entry) → seen ≡ entries → got ≡ entries → p < length got → u ≡ get_or got p u → ¬ (u.op ≡ op) →
    (AllPairs (λ one other. one.op < other.op) seen → IsPartitionPoint (λ e. e.op < op) (λ e. op ≤ e.op) seen p) →
    AreInOrder (map begun_of entries) → ¬ Contains (map (λ b. b.op) (map begun_of entries)) op
other_there entries seen got p op u same alike inside at other point h c =
    let f = found_there entries seen p op same point h c in
    let there : slice_get entries p ≡ Some u =
    subst (λ (es : List Entry). slice_get es p ≡ Some u) alike (slice_get_read got (length got) p u refl inside at) in
    let one : u ≡ f.0 = some_same u f.0 (sym there ∙ f.1) in
    other (ap (λ (e : Entry). e.op) one ∙ f.2)
  where
    some_same : (a b : Entry) → Some a ≡ Some b → a ≡ b
    some_same a b e = cc

pub nothing_there : (entries seen got : List Entry) (p op : ℕ) → seen ≡ entries → got ≡ entries → length got ≤ p →
    (AllPairs (λ one other. one.op < other.op) seen → IsPartitionPoint (λ e. e.op < op) (λ e. op ≤ e.op) seen p) →
    AreInOrder (map begun_of entries) → ¬ Contains (map (λ b. b.op) (map begun_of entries)) op
nothing_there entries seen got p op same alike past point h c =
    let f = found_there entries seen p op same point h c in
    let within : p < length entries = slice_get_within entries p f.0 f.1 in
    let long : length entries ≤ p = subst (λ (es : List Entry). length es ≤ p) alike past in
    omega (arith, within, long)

pub found_so : (found : Option (Bor Entry)) (ops : List Begun) (op : ℕ) (so : Bool) →
    MatchOption found (¬ Contains (map (λ b. b.op) ops) op) (λ e. Contains ops (begun_of e.now) × (e.now.op ≡ op)) → so ≡ is_some found →
    IsTrue so ↔ Contains (map (λ b. b.op) ops) op
found_so None ops op so m e = (λ t. absurd (true≢false (sym t ∙ e)), λ c. absurd (m c))
found_so (Some r) ops op so m e = (
  λ t. subst (λ (q : ℕ). Contains (map (λ (b : Begun). b.op) ops) q) m.1 (in_map (λ (b : Begun). b.op) ops (begun_of r.now) m.0),
  λ c. e,
)

-- two of one number are one
pub one_operation : (ops : List Begun) (a b : Begun) → AreInOrder ops → Contains ops a → Contains ops b → a.op ≡ b.op → a ≡ b
one_operation ops a b h c d same =
    let of_a : (get_or ops c.0 a).op ≡ a.op = ap (λ (o : Begun). o.op) c.2 in
    let of_b : (get_or ops d.0 a).op ≡ b.op = ap (λ (o : Begun). o.op) (get_or_default ops d.0 a b d.1 ∙ d.2) in
    elim (cases_lt c.0 d.0) [
      | inl less ↦ let below = h c.0 d.0 a less d.1 in absurd (omega (arith, below, of_a, of_b, same))
      | inr late ↦ elim (cases_lt d.0 c.0) [
        | inl more ↦ let below = h d.0 c.0 a more c.1 in absurd (omega (arith, below, of_a, of_b, same))
        | inr now ↦
            let at : c.0 ≡ d.0 = omega (arith, late, now) in
            sym c.2 ∙ ap (λ (k : ℕ). get_or ops k a) at ∙ get_or_default ops d.0 a b d.1 ∙ d.2
      ]
    ]

-- whether an operation is pending
module _ (events : List Event) (ops : List Begun) (h : AreOperations events ops) where
  pub entry_pending : (e : Begun) (hart op : ℕ) → Contains ops e → e.op ≡ op → e.hart ≡ hart → e.has_ended ≡ false → IsPendingBy events hart op
  entry_pending e hart op c its on open_still = (
    subst (λ (q : ℕ). Contains events (Begin hart q)) its (subst (λ (g : ℕ). Contains events (Begin g e.op)) on (h.each e c).begins),
    λ over. true≢false (sym ((h.each e c).ends.1 (subst (λ (q : ℕ). Contains (ended events) q) (sym its) over)) ∙ open_still),
  )

  pub entry_other : (e : Begun) (hart op : ℕ) → Contains ops e → e.op ≡ op → ¬ (e.hart ≡ hart) → ¬ IsPendingBy events hart op
  entry_other e hart op c its other p =
      let o = h.all hart op p.0 in
      let same : e ≡ o.0 = one_operation ops e o.0 h.in_order c o.1 (its ∙ sym o.2) in
      other (ap (λ (b : Begun). b.hart) same ∙ o.3)

  pub entry_over : (e : Begun) (hart op : ℕ) → Contains ops e → e.op ≡ op → e.has_ended ≡ true → ¬ IsPendingBy events hart op
  entry_over e hart op c its over p = p.1 (subst (λ (q : ℕ). Contains (ended events) q) its ((h.each e c).ends.0 over))

  pub no_entry : (hart op : ℕ) → ¬ Contains (map (λ b. b.op) ops) op → ¬ IsPendingBy events hart op
  no_entry hart op lacks p =
      let o = h.all hart op p.0 in
      lacks (subst (λ (q : ℕ). Contains (map (λ (b : Begun). b.op) ops) q) o.2 (in_map (λ (b : Begun). b.op) ops o.0 o.1))

-- whether one of a hart is pending
or_cases : (a b : Bool) → (a || b) ≡ true → (a ≡ true) ⊎ (b ≡ true)
or_cases true b e = inl refl
or_cases false b e = inr e

or_first : (a b : Bool) → a ≡ true → (a || b) ≡ true
or_first true b e = refl
or_first false b e = absurd cc

or_second : (a b : Bool) → b ≡ true → (a || b) ≡ true
or_second true b e = refl
or_second false b e = e

and_both : (a b : Bool) → a ≡ true → b ≡ true → (a && b) ≡ true
and_both true b e f = f
and_both false b e f = absurd cc

and_parts : (a b : Bool) → (a && b) ≡ true → (a ≡ true) × (b ≡ true)
and_parts true b e = (refl, e)
and_parts false b e = absurd cc

not_so : (b : Bool) → not b ≡ true → b ≡ false
not_so true e = absurd cc
not_so false e = refl

so_not : (b : Bool) → b ≡ false → not b ≡ true
so_not true e = absurd cc
so_not false e = refl

pub pending_so : (hart : ℕ) (entries : List Entry) → has_pending hart entries ≡ true →
    (b : Begun) × Contains (map begun_of entries) b × (b.hart ≡ hart) × (b.has_ended ≡ false)
pending_so hart [] e = absurd cc
pending_so hart (x ∷ entries) e = elim (or_cases ((x.hart == hart) && not x.ended) (has_pending hart entries) e) [
  | inl here ↦
      let parts = and_parts (x.hart == hart) (not x.ended) here in
      (begun_of x, contains_first (begun_of x) (map begun_of entries) (begun_of x) refl, eqb-true x.hart hart parts.0, not_so x.ended parts.1)
  | inr there ↦
      let b = pending_so hart entries there in
      (b.0, contains_later (begun_of x) (map begun_of entries) b.0 b.1, b.2, b.3)
]

pub so_pending : (hart : ℕ) (entries : List Entry) (b : Begun) → Contains (map begun_of entries) b → b.hart ≡ hart → b.has_ended ≡ false → has_pending hart entries ≡ true
so_pending hart [] b c on open_still = absurd (no_members b c)
so_pending hart (x ∷ entries) b c on open_still = elim (contains_cases (begun_of x) (map begun_of entries) b c) [
  | inl is ↦
      or_first ((x.hart == hart) && not x.ended) (has_pending hart entries)
      (and_both (x.hart == hart) (not x.ended) (eq-eqb x.hart hart (ap (λ (o : Begun). o.hart) is ∙ on)) (so_not x.ended (ap (λ (o : Begun). o.has_ended) is ∙ open_still)))
  | inr d ↦ or_second ((x.hart == hart) && not x.ended) (has_pending hart entries) (so_pending hart entries b d on open_still)
]

pub hart_pending : (events : List Event) (entries : List Entry) (hart : ℕ) → AreOperations events (map begun_of entries) → has_pending hart entries ≡ true →
    (op : ℕ) × IsPendingBy events hart op
hart_pending events entries hart h so =
    let b = pending_so hart entries so in
    (b.0.op, entry_pending events (map begun_of entries) h b.0 hart b.0.op b.1 refl b.2 b.3)

pub hart_free : (events : List Event) (entries : List Entry) (hart : ℕ) → AreOperations events (map begun_of entries) → has_pending hart entries ≡ false →
    (op : ℕ) → ¬ IsPendingBy events hart op
hart_free events entries hart h so op p =
    let o = h.all hart op p.0 in
    let open_still : o.0.has_ended ≡ false = elim (cases_Bool o.0.has_ended) [
      | inl e ↦ absurd (p.1 (subst (λ (q : ℕ). Contains (ended events) q) o.2 ((h.each o.0 o.1).ends.0 e)))
      | inr e ↦ e
    ] in
    true≢false (sym (so_pending hart entries o.0 o.1 o.3 open_still) ∙ so)

-- whether a word has what it must
pub one_missing : (entries : List Entry) (word : List Operation) (i : ℕ) (entry : Entry) → i < length entries → entry ≡ get_or entries i entry → entry.ended ≡ true →
    has word entry.op ≡ false → ¬ HasAllEnded (map begun_of entries) word
one_missing entries word i entry inside at over lacks h =
    let among : Contains entries entry = (i, inside, sym at) in
    true≢false (sym (has_so word entry.op (h (begun_of entry) (in_map begun_of entries entry among) over)) ∙ lacks)

pub next_there : (entries : List Entry) (word : List Operation) (i : ℕ) (entry : Entry) → i < length entries → entry ≡ get_or entries i entry →
    HasAllEnded (map begun_of (take i entries)) word → (entry.ended ≡ false) ⊎ (has word entry.op ≡ true) → HasAllEnded (map begun_of (take (i + 1) entries)) word
next_there entries word i entry inside at h here o c over =
    let more : map begun_of (take (i + 1) entries) ≡ map begun_of (take i entries) ++ begun_of entry ∷ [] =
    map_more begun_of entries i entry inside ∙ ap (λ (e : Entry). map begun_of (take i entries) ++ begun_of e ∷ []) (sym at) in
    elim (Contains-push_cases (map begun_of (take i entries)) (begun_of entry) o (subst (λ (bs : List Begun). Contains bs o) more c)) [
      | inl was ↦ h o was over
      | inr is ↦
          let so : entry.ended ≡ true = ap (λ (b : Begun). b.has_ended) is ∙ over in
          elim here [
            | inl open_still ↦ absurd (true≢false (sym so ∙ open_still))
            | inr there ↦ subst (λ (b : Begun). Contains (map (λ (p : Operation). p.op) word) b.op) is (so_has word entry.op there)
          ]
    ]

-- whether an operation may be the next
all_so : (test : ℕ → Bool) (xs : List ℕ) (x : ℕ) → list_all test xs ≡ true → Contains xs x → test x ≡ true
all_so test [] x e c = absurd (no_members x c)
all_so test (y ∷ xs) x e c =
    let parts = and_parts (test y) (list_all test xs) e in
    elim (contains_cases y xs x c) [ inl is ↦ ap test (sym is) ∙ parts.0 | inr d ↦ all_so test xs x parts.1 d ]

so_all : (test : ℕ → Bool) (xs : List ℕ) → ((x : ℕ) → Contains xs x → test x ≡ true) → list_all test xs ≡ true
so_all test [] h = refl
so_all test (y ∷ xs) h =
    and_both (test y) (list_all test xs) (h y (contains_first y xs y refl)) (so_all test xs (λ x c. h x (contains_later y xs x c)))

pub follows_so : (ops : List Begun) (done : List Operation) (next : Operation) (e : Begun) (so : Bool) → AreInOrder ops → Contains ops e → e.op ≡ next.op →
    e.hart ≡ next.hart → so ≡ list_all (has done) e.earlier → IsTrue so ↔ MayFollow ops done next
follows_so ops done next e so h c its on is = (
  λ t. record {
    operation = e;
    among = c;
    op_is = its;
    hart_is = on;
    earlier_done = λ x among. so_has done x (all_so (has done) e.earlier x (sym is ∙ t) among);
  },
  λ m.
      let same : m.operation ≡ e = one_operation ops m.operation e h m.among c (m.op_is ∙ sym its) in
      is ∙ so_all (has done) e.earlier (λ x among. has_so done x (m.earlier_done x (subst (λ (b : Begun). Contains b.earlier x) (sym same) among))),
)

pub follows_not : (ops : List Begun) (done : List Operation) (next : Operation) (e : Begun) → AreInOrder ops → Contains ops e → e.op ≡ next.op →
    ¬ (e.hart ≡ next.hart) → ¬ MayFollow ops done next
follows_not ops done next e h c its other m =
    let same : e ≡ m.operation = one_operation ops e m.operation h c m.among (its ∙ sym m.op_is) in
    other (ap (λ (b : Begun). b.hart) same ∙ m.hart_is)

pub follows_none : (ops : List Begun) (done : List Operation) (next : Operation) → ¬ Contains (map (λ b. b.op) ops) next.op → ¬ MayFollow ops done next
follows_none ops done next lacks m =
    lacks (subst (λ (q : ℕ). Contains (map (λ (b : Begun). b.op) ops) q) m.op_is (in_map (λ (b : Begun). b.op) ops m.operation m.among))

-- the word, one operation further
pub follows_next : (ops : List Begun) (word : List Operation) (i : ℕ) (d : Operation) →
    ((k : ℕ) (next : Operation) → k < i → slice_get word k ≡ Some next → MayFollow ops (take k word) next) → MayFollow ops (take i word) (get_or word i d) →
    (k : ℕ) (next : Operation) → k < i + 1 → slice_get word k ≡ Some next → MayFollow ops (take k word) next
follows_next ops word i d h here k next less at = elim (cases_lt k i) [
  | inl before ↦ h k next before at
  | inr late ↦
      let same : i ≡ k = omega (arith, less, late) in
      let m : MayFollow ops (take k word) (get_or word k d) = subst (λ (n : ℕ). MayFollow ops (take n word) (get_or word n d)) same here in
      subst (λ (o : Operation). MayFollow ops (take k word) o) (get_or_from_slice_get word k next d at) m
]

-- an entry of an operation that begins
abbrev newly : ℕ → ℕ → List ℕ → Begun
newly hart op earlier = record { op = op; hart = hart; has_ended = false; earlier = earlier }

pub begins_newly : (entries seen : List Entry) (hart op : ℕ) (earlier : List ℕ) → seen ≡ entries →
    earlier ≡ map (λ (b : Begun). b.op) (filter (λ (b : Begun). b.has_ended) (map begun_of seen)) → newly hart op earlier ≡ begins_in (map begun_of entries) hart op
begins_newly entries seen hart op earlier same is =
    ap (λ (ops : List ℕ). newly hart op ops) is ∙ ap (λ (es : List Entry). begins_in (map begun_of es) hart op) same

no_members_left : (ops : List ℕ) → ((op : ℕ) → ¬ Contains ops op) → ops ≡ []
no_members_left [] none = refl
no_members_left (op ∷ ops) none = absurd (none op (contains_first op ops op refl))

-- no entry where no operation has begun
pub none_begun : (events : List Event) (entries : List Entry) (none : Bool) → AreOperations events (map begun_of entries) →
    IsTrue none ↔ (length entries ≡ 0) → IsTrue none ↔ (begun events ≡ [])
none_begun events [] none h is = (
  λ t. no_members_left (begun events) (λ op c. absurd (no_members op ((numbered events [] op h).1 c))),
  λ e. is.1 refl,
)
none_begun events (entry ∷ entries) none h is = (
  λ t. absurd (omega (arith, is.0 t)),
  λ e. absurd (no_members entry.op (subst (λ (ops : List ℕ). Contains ops entry.op) e ((numbered events (begun_of entry ∷ map begun_of entries) entry.op h).0
      (contains_first entry.op (map (λ (b : Begun). b.op) (map begun_of entries)) entry.op refl)))),
)
