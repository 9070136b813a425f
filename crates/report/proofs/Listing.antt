-- The instructions that are needless each time, out of the uses of each pc.
use Rattle.std.proofs.Common.{◌≡◌, ◌∙◌, ◌==◌, inl, inr, ℕ, ◌<◌, List, [], ◌∷◌, ◌++◌, Option, Some, None, Bool, true, false, cond, get_or, length, refl, zero, suc, ap, sym, subst, arith, map, BTreeMap, nat_cmp, Less, Equal, Greater}
use Rattle.std.specs.BTreeMap.{IsOrdered, get, keys}
use Rattle.std.specs.List.{count_by, filter, flat_map}
use Rattle.std.proofs.lemmas.Bool.Decides.{eqb_tells}
use Rattle.std.proofs.lemmas.Bool.{eqb-true, ltb-true}
use Rattle.std.specs.Prelude.{nat_lt}
use Rattle.std.proofs.lemmas.Grind.{flat_map-append}
use Rattle.std.proofs.lemmas.List.{append-nil, append_assoc, get_or-map, get_or_default, length-map, map-append}
use Rattle.std.proofs.lemmas.List.Elements.{All-cons, All-head, Contains-get_or, All-nil, All-tail, All-from_get_or, filter-append}
use Rattle.std.proofs.lemmas.List.Kept.{AllPairs-filter}
use Rattle.std.proofs.lemmas.Cmp.{nat_cmp_total}
use Rattle.std.proofs.lemmas.Map.Entries.{length-keys_of}
use Rattle.std.proofs.lemmas.Map.Keys.{Less-from_sorted}
use Rattle.std.proofs.lemmas.Map.Views.{btree_map_get_iff}
use Rattle.std.specs.Prelude.{All, AllPairs, Any, Contains}
use Rattle.report.specs.Tallies.{AreUses, AreUsesAt, AreUsesOf}
use Rattle.report.specs.Uses.{Always, AreAlways, IsAlways, Judged, is_use_at, is_vain_at}
use Rattle.report.specs.declared.redundant.uses.Uses.{Uses}

abbrev pub is_always : ℕ × Uses → Bool
is_always entry = entry.1.vain == entry.1.count

abbrev pub always_of : ℕ × Uses → Always
always_of entry = record { pc = entry.0; hart = entry.1.hart; count = entry.1.count }

abbrev pub always_in : List (ℕ × Uses) → List Always
always_in entries = map always_of (filter is_always entries)

-- the lines of those among some entries
abbrev pub lines_of : (Always → List ℕ) → List (ℕ × Uses) → List ℕ
lines_of shape entries = flat_map shape (always_in entries)

kept : (e : ℕ × Uses) (b : Bool) → map always_of (cond b (e ∷ []) []) ≡ cond b (always_of e ∷ []) []
kept e true = refl
kept e false = refl

eqb_of : (a b : ℕ) → a ≡ b → (a == b) ≡ true
eqb_of a b e = elim (eqb_tells a b) [ inl h ↦ h.0 | inr h ↦ absurd (h.1 e) ]

not_eqb : (a b : ℕ) → (a ≡ b → ⊥) → (a == b) ≡ false
not_eqb a b n = elim (eqb_tells a b) [ inl h ↦ absurd (n h.1) | inr h ↦ h.0 ]

told_last : (shape : Always → List ℕ) (ys : List (ℕ × Uses)) (e : ℕ × Uses) →
    lines_of shape (ys ++ e ∷ []) ≡ lines_of shape ys ++ lines_of shape (e ∷ [])
told_last shape ys e =
    ap (λ l. flat_map shape (map always_of l)) (filter-append is_always ys (e ∷ []))
    ∙ ap (flat_map shape) (map-append always_of (filter is_always ys) (filter is_always (e ∷ [])))
    ∙ flat_map-append shape (always_in ys) (always_in (e ∷ []))

only : (e : ℕ × Uses) (b : Bool) → is_always e ≡ b → always_in (e ∷ []) ≡ cond b (always_of e ∷ []) []
only e b is = ap (λ t. map always_of (cond t (e ∷ []) [])) is ∙ kept e b

-- an entry that is told
pub told : (shape : Always → List ℕ) (text before after line : List ℕ) (ys : List (ℕ × Uses)) (e : ℕ × Uses) →
    e.1.vain ≡ e.1.count → before ≡ text ++ lines_of shape ys → after ≡ before ++ line → line ≡ shape (always_of e) →
    after ≡ text ++ lines_of shape (ys ++ e ∷ [])
told shape text before after line ys e same was is says =
    is ∙ ap (λ l. l ++ line) was ∙ append_assoc text (lines_of shape ys) line ∙ ap (λ l. text ++ (lines_of shape ys ++ l)) says
    ∙ ap (λ l. text ++ l) (sym (told_last shape ys e ∙ ap (λ l. lines_of shape ys ++ l) (
    ap (flat_map shape) (only e true (eqb_of e.1.vain e.1.count same)) ∙ append-nil (shape (always_of e)))))

-- and one that isn't
pub untold : (shape : Always → List ℕ) (text before : List ℕ) (ys : List (ℕ × Uses)) (e : ℕ × Uses) →
    (e.1.vain ≡ e.1.count → ⊥) → before ≡ text ++ lines_of shape ys → before ≡ text ++ lines_of shape (ys ++ e ∷ [])
untold shape text before ys e differ was =
    was ∙ ap (λ l. text ++ l) (sym (told_last shape ys e ∙ ap (λ l. lines_of shape ys ++ l) (
    ap (flat_map shape) (only e false (not_eqb e.1.vain e.1.count differ))) ∙ append-nil (lines_of shape ys)))

-- what a comparison of numbers tells
equal_less : Equal ≡ Less → ⊥
equal_less e = cc

greater_less : Greater ≡ Less → ⊥
greater_less e = cc

less_equal : Less ≡ Equal → ⊥
less_equal e = cc

greater_equal : Greater ≡ Equal → ⊥
greater_equal e = cc

true_false : true ≡ false → ⊥
true_false e = cc

less_tells : (lt eq : Bool) → cond lt Less (cond eq Equal Greater) ≡ Less → lt ≡ true
less_tells true eq e = refl
less_tells false true e = absurd (equal_less e)
less_tells false false e = absurd (greater_less e)

equal_tells : (lt eq : Bool) → cond lt Less (cond eq Equal Greater) ≡ Equal → eq ≡ true
equal_tells true eq e = absurd (less_equal e)
equal_tells false true e = refl
equal_tells false false e = absurd (greater_equal e)

below : (x y : ℕ) → nat_cmp x y ≡ Less → x < y
below x y e = ltb-true x y (less_tells (nat_lt x y) (x == y) e)

same : (x y : ℕ) → nat_cmp x y ≡ Equal → x ≡ y
same x y e = elim (eqb_tells x y) [ inl h ↦ h.1 | inr h ↦ absurd (true_false (sym (equal_tells (nat_lt x y) (x == y) e) ∙ h.0)) ]

none : Uses
none = record { hart = None; count = 0; vain = 0 }

-- the entries are those that the look-up finds
entry_of : (all : List Judged) (uses : BTreeMap ℕ Uses) → IsOrdered nat_cmp uses → AreUses all (get nat_cmp uses) →
    (i : ℕ) → i < length uses.entries → AreUsesOf all (get_or uses.entries i (0, none)).0 (get_or uses.entries i (0, none)).1
entry_of all uses ordered are i within =
    let e : ℕ × Uses = get_or uses.entries i (0, none) in
    let found : get nat_cmp uses e.0 ≡ Some e.1 =
    (btree_map_get_iff nat_cmp_total same uses ordered e.0 e.1).1 (Contains-get_or uses.entries i (0, none) within) in
    subst (λ o. AreUsesAt all e.0 o) found (are e.0)

-- each of them that is told is so each time
each_in : (all : List Judged) (es : List (ℕ × Uses)) → All (λ e. AreUsesOf all e.0 e.1) es → All (IsAlways all) (always_in es)
each_in all [] h = All-nil (IsAlways all)
each_in all (e ∷ es) h = each_more all e es (is_always e) refl (All-head (λ e. AreUsesOf all e.0 e.1) e es h)
    (each_in all es (All-tail (λ e. AreUsesOf all e.0 e.1) e es h))
  where
    each_more : (all : List Judged) (e : ℕ × Uses) (es : List (ℕ × Uses)) (b : Bool) → is_always e ≡ b → AreUsesOf all e.0 e.1 →
        All (IsAlways all) (always_in es) → All (IsAlways all) (map always_of (cond b (e ∷ filter is_always es) (filter is_always es)))
    each_more all e es true is h rest = All-cons (IsAlways all) (always_of e) (always_in es) (record {
      some = h.some;
      uses = sym h.count;
      vain = sym h.vain ∙ eqb-true e.1.vain e.1.count is;
      hart = h.hart;
    }) rest
    each_more all e es false is h rest = rest

-- an entry that is so each time is told
any_in : (es : List (ℕ × Uses)) (i : ℕ) → i < length es → is_always (get_or es i (0, none)) ≡ true →
    Any (λ one. one.pc ≡ (get_or es i (0, none)).0) (always_in es)
any_in [] i within is = absurd (omega arith)
any_in (e ∷ es) zero within is =
    subst (λ b. Any (λ one. one.pc ≡ e.0) (map always_of (cond b (e ∷ filter is_always es) (filter is_always es)))) (sym is)
    (0, always_of e, omega arith, refl, refl)
any_in (e ∷ es) (suc i) within is = any_more e es (get_or es i (0, none)).0 (is_always e) (any_in es i (omega arith) is)
  where
    any_more : (e : ℕ × Uses) (es : List (ℕ × Uses)) (pc : ℕ) (b : Bool) → Any (λ one. one.pc ≡ pc) (always_in es) →
        Any (λ one. one.pc ≡ pc) (map always_of (cond b (e ∷ filter is_always es) (filter is_always es)))
    any_more e es pc true (k, x, lt, at, is) = (suc k, x, omega arith, at, is)
    any_more e es pc false h = h

-- an entry that is so each time is told by its pc
found_in : (uses : BTreeMap ℕ Uses) (pc : ℕ) (u : Uses) → Contains uses.entries (pc, u) → (u.vain == u.count) ≡ true →
    Any (λ one. one.pc ≡ pc) (always_in uses.entries)
found_in uses pc u (k, within, at) is =
    let e : get_or uses.entries k (0, none) ≡ (pc, u) = get_or_default uses.entries k (0, none) (pc, u) within ∙ at in
    subst (λ n. Any (λ one. one.pc ≡ n) (always_in uses.entries)) (ap (λ (x : ℕ × Uses). x.0) e)
    (any_in uses.entries k within (ap is_always e ∙ is))

upwards_in : (uses : BTreeMap ℕ Uses) → IsOrdered nat_cmp uses → AllPairs (λ one other. one.pc < other.pc) (always_in uses.entries)
upwards_in uses ordered = mapped (filter is_always uses.entries) (AllPairs-filter (λ (x y : ℕ × Uses). x.0 < y.0) is_always uses.entries rising)
  where
    rising : AllPairs (λ (x y : ℕ × Uses). x.0 < y.0) uses.entries
    rising i j d lt within = below _ _ (
        ap (λ n. nat_cmp n (get_or uses.entries j d).0) (sym (get_or-map (λ (e : ℕ × Uses). e.0) uses.entries i d 0 (omega (arith, lt, within))))
        ∙ ap (nat_cmp (get_or (keys uses) i 0)) (sym (get_or-map (λ (e : ℕ × Uses). e.0) uses.entries j d 0 within))
        ∙ Less-from_sorted nat_cmp (keys uses) i j 0 ordered lt (omega (arith, within, length-keys_of uses.entries)))

    mapped : (es : List (ℕ × Uses)) → AllPairs (λ (x y : ℕ × Uses). x.0 < y.0) es → AllPairs (λ one other. one.pc < other.pc) (map always_of es)
    mapped es h i j d lt within =
        let inside : j < length es = omega (arith, within, length-map es always_of) in
        rw (get_or-map always_of es i (0, none) d (omega (arith, lt, inside))) (rw (get_or-map always_of es j (0, none) d inside) (h i j (0, none) lt inside))

pub are_always : (all : List Judged) (uses : BTreeMap ℕ Uses) → IsOrdered nat_cmp uses → AreUses all (get nat_cmp uses) →
    AreAlways all (always_in uses.entries)
are_always all uses ordered are = record {
  upwards = upwards_in uses ordered;
  each = each_in all uses.entries (All-from_get_or (λ e. AreUsesOf all e.0 e.1) uses.entries (0, none) (entry_of all uses ordered are));
  every = λ pc some vain. every_in pc (get nat_cmp uses pc) refl some vain;
}
  where
    every_in : (pc : ℕ) (o : Option Uses) → get nat_cmp uses pc ≡ o → 0 < count_by (is_use_at pc) all →
        count_by (is_vain_at pc) all ≡ count_by (is_use_at pc) all → Any (λ one. one.pc ≡ pc) (always_in uses.entries)
    every_in pc None is some vain = absurd (omega (arith, some, subst (λ o. AreUsesAt all pc o) is (are pc)))
    every_in pc (Some u) is some vain =
        let h : AreUsesOf all pc u = subst (λ o. AreUsesAt all pc o) is (are pc) in
        let there = (btree_map_get_iff nat_cmp_total same uses ordered pc u).0 is in
        found_in uses pc u there (eqb_of u.vain u.count (h.vain ∙ vain ∙ sym h.count))
