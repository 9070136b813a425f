-- Operations that share no inode grow a volume to the same in any order.
use Rattle.std.proofs.Common.{◌≡◌, ℕ, zero, suc, ◌<◌, Bool, true, false, ◌&&◌, inl, inr, List, [], ◌∷◌, ◌++◌, map, length, set, refl, sym, ap, ◌∙◌, subst, Option, Some, None, ltb-true, length-set, get_or-set_other, eqb-true, eq-eqb, true≢false, IsPermutation}
use Rattle.std.specs.Prelude.{◌==◌, nat_lt, slice_set, option_and_then}
use Rattle.std.specs.List.{AllByRecursion, Contains, flat_map}
use Rattle.std.proofs.lemmas.Bool.{cases_Bool}
use Rattle.nova_log.specs.Logs.{log_of}
use Rattle.plan.specs.declared.operation.PlannedEntry.{PlannedEntry}
use Rattle.nova_log.specs.declared.volume.entry.Entry.{Entry}
use Rattle.image_check.specs.Growth.{are_within}
use Rattle.image_check.specs.Legal.{with_entries, with_entry}
use Rattle.image_check.proofs.Growing.{none_fits, with_first}
use Rattle.image_check.proofs.Permuting.{along_permutation}
use Rattle.store_trace.proofs.Members.{contains_first, contains_later}

-- two places of a list
set_both : {X : Type 0} (l : List X) (i j : ℕ) (a b : X) → ¬ (i ≡ j) → set (set l i a) j b ≡ set (set l j b) i a
set_both [] i j a b n = refl
set_both (x ∷ l) zero zero a b n = absurd (n refl)
set_both (x ∷ l) zero (suc j) a b n = refl
set_both (x ∷ l) (suc i) zero a b n = refl
set_both {X} (x ∷ l) (suc i) (suc j) a b n = ap (λ (k : List X). x ∷ k) (set_both l i j a b (λ e. n (ap suc e)))

abbrev grown_by : List (List Entry) → PlannedEntry → List (List Entry)
grown_by v e = slice_set v e.inode (log_of v e.inode ++ e.entry ∷ [])

-- two entries of different inodes that the volume has
both_entries : (v : List (List Entry)) (a b : PlannedEntry) → ¬ (a.inode ≡ b.inode) → grown_by (grown_by v a) b ≡ grown_by (grown_by v b) a
both_entries v a b n =
    let of_b : log_of (grown_by v a) b.inode ≡ log_of v b.inode = get_or-set_other v a.inode b.inode (log_of v a.inode ++ a.entry ∷ []) [] (λ s. n (sym s)) in
    let of_a : log_of (grown_by v b) a.inode ≡ log_of v a.inode = get_or-set_other v b.inode a.inode (log_of v b.inode ++ b.entry ∷ []) [] n in
    ap (λ (l : List Entry). slice_set (grown_by v a) b.inode (l ++ b.entry ∷ [])) of_b
    ∙ set_both v a.inode b.inode (log_of v a.inode ++ a.entry ∷ []) (log_of v b.inode ++ b.entry ∷ []) n
    ∙ ap (λ (l : List Entry). slice_set (grown_by v b) a.inode (l ++ a.entry ∷ [])) (sym of_a)

first_out : (b c : Bool) → b ≡ false → (b && c) ≡ false
first_out true c e = absurd cc
first_out false c e = refl

second_out : (b c d : Bool) → c ≡ false → (b && (c && d)) ≡ false
second_out true true d e = absurd cc
second_out true false d e = refl
second_out false c d e = refl

-- where the volume lacks the first one's inode, or the second one's, there is none
lacks_first : (v : List (List Entry)) (a : PlannedEntry) (es : List PlannedEntry) → nat_lt a.inode (length v) ≡ false → with_entries v (a ∷ es) ≡ None
lacks_first v a es f = none_fits v (a ∷ es) (first_out (nat_lt a.inode (length v)) (are_within (length v) es) f)

lacks_second : (v : List (List Entry)) (a b : PlannedEntry) (es : List PlannedEntry) → nat_lt b.inode (length v) ≡ false → with_entries v (a ∷ b ∷ es) ≡ None
lacks_second v a b es f = none_fits v (a ∷ b ∷ es) (second_out (nat_lt a.inode (length v)) (nat_lt b.inode (length v)) (are_within (length v) es) f)

has_both : (v : List (List Entry)) (a b : PlannedEntry) (es : List PlannedEntry) → a.inode < length v → b.inode < length v →
    with_entries v (a ∷ b ∷ es) ≡ with_entries (grown_by (grown_by v a) b) es
has_both v a b es p q =
    let same : length (grown_by v a) ≡ length v = length-set v a.inode (log_of v a.inode ++ a.entry ∷ []) in
    with_first v a (b ∷ es) p ∙ with_first (grown_by v a) b es (subst (λ (n : ℕ). b.inode < n) (sym same) q)

entries_turn : (v : List (List Entry)) (a b : PlannedEntry) (es : List PlannedEntry) → ¬ (a.inode ≡ b.inode) →
    with_entries v (a ∷ b ∷ es) ≡ with_entries v (b ∷ a ∷ es)
entries_turn v a b es n = elim (cases_Bool (nat_lt a.inode (length v))) [
  | inl t ↦ elim (cases_Bool (nat_lt b.inode (length v))) [
    | inl u ↦
        let p : a.inode < length v = ltb-true a.inode (length v) t in
        let q : b.inode < length v = ltb-true b.inode (length v) u in
        has_both v a b es p q
        ∙ ap (λ (w : List (List Entry)). with_entries w es) (both_entries v a b n)
        ∙ sym (has_both v b a es q p)
    | inr g ↦ lacks_second v a b es g ∙ sym (lacks_first v b (a ∷ es) g)
  ]
  | inr f ↦ lacks_first v a (b ∷ es) f ∙ sym (lacks_second v b a es f)
]

-- what follows one entry may be replaced
after_any : (o : Option (List (List Entry))) (xs ys : List PlannedEntry) → ((v : List (List Entry)) → with_entries v xs ≡ with_entries v ys) →
    option_and_then (λ n. with_entries n xs) o ≡ option_and_then (λ n. with_entries n ys) o
after_any None xs ys h = refl
after_any (Some v) xs ys h = h v

pub after_entry : (e : PlannedEntry) (xs ys : List PlannedEntry) → ((v : List (List Entry)) → with_entries v xs ≡ with_entries v ys) →
    (v : List (List Entry)) → with_entries v (e ∷ xs) ≡ with_entries v (e ∷ ys)
after_entry e xs ys h v = after_any (with_entry v e) xs ys h

pub after_entries : (es xs ys : List PlannedEntry) → ((v : List (List Entry)) → with_entries v xs ≡ with_entries v ys) →
    (v : List (List Entry)) → with_entries v (es ++ xs) ≡ with_entries v (es ++ ys)
after_entries [] xs ys h = h
after_entries (e ∷ es) xs ys h = after_entry e (es ++ xs) (es ++ ys) (after_entries es xs ys h)

abbrev inodes : List PlannedEntry → List ℕ
inodes es = map (λ e. e.inode) es

-- no entry of the first list has an inode of one of the second
abbrev pub AreOfOthers : List PlannedEntry → List PlannedEntry → Type 0
AreOfOthers xs ys = (i : ℕ) → Contains (map (λ e. e.inode) xs) i → ¬ Contains (map (λ e. e.inode) ys) i

entry_past : (e : PlannedEntry) (xs ys : List PlannedEntry) → ¬ Contains (map (λ x. x.inode) xs) e.inode →
    (v : List (List Entry)) → with_entries v (e ∷ (xs ++ ys)) ≡ with_entries v (xs ++ e ∷ ys)
entry_past e [] ys n v = refl
entry_past e (x ∷ xs) ys n v =
    entries_turn v e x (xs ++ ys) (λ s. n (contains_first x.inode (inodes xs) e.inode (sym s)))
    ∙ after_entry x (e ∷ (xs ++ ys)) (xs ++ e ∷ ys) (entry_past e xs ys (λ c. n (contains_later x.inode (inodes xs) e.inode c))) v

entries_past : (xs ys zs : List PlannedEntry) → AreOfOthers xs ys → (v : List (List Entry)) → with_entries v (xs ++ (ys ++ zs)) ≡ with_entries v (ys ++ (xs ++ zs))
entries_past [] ys zs n v = refl
entries_past (x ∷ xs) ys zs n v =
    after_entry x (xs ++ (ys ++ zs)) (ys ++ (xs ++ zs)) (entries_past xs ys zs (λ i c. n i (contains_later x.inode (inodes xs) i c))) v
    ∙ entry_past x ys (xs ++ zs) (n x.inode (contains_first x.inode (inodes xs) x.inode refl)) v

-- the operations, each with its entries, in another order
abbrev Grows : (ℕ → Type 0) → (ℕ → List PlannedEntry) → List ℕ → List ℕ → Type 0
Grows S f xs ys = AllByRecursion S xs → AllByRecursion S ys × ((v : List (List Entry)) → with_entries v (flat_map f xs) ≡ with_entries v (flat_map f ys))

operations_turn : (S : ℕ → Type 0) (f : ℕ → List PlannedEntry) → ((a b : ℕ) → S a → S b → ¬ (a ≡ b) → AreOfOthers (f a) (f b)) →
    (x y : ℕ) (xs : List ℕ) → Grows S f (x ∷ y ∷ xs) (y ∷ x ∷ xs)
operations_turn S f apart x y xs h = (
  (h.1.0, (h.0, h.1.1)),
  λ v. elim (cases_Bool (x == y)) [
    | inl t ↦
        let same : x ≡ y = eqb-true x y t in
        ap (λ (z : ℕ). with_entries v (f z ++ (f y ++ flat_map f xs))) same
        ∙ ap (λ (z : ℕ). with_entries v (f y ++ (f z ++ flat_map f xs))) (sym same)
    | inr u ↦
        entries_past (f x) (f y) (flat_map f xs)
        (apart x y h.0 h.1.0 (λ same. differ x y u same)) v
  ],
)
  where
    differ : (x y : ℕ) → (x == y) ≡ false → ¬ (x ≡ y)
    differ x y u same = true≢false (sym (eq-eqb x y same) ∙ u)

pub permuted_grown : (S : ℕ → Type 0) (f : ℕ → List PlannedEntry) → ((a b : ℕ) → S a → S b → ¬ (a ≡ b) → AreOfOthers (f a) (f b)) →
    (xs ys : List ℕ) → IsPermutation xs ys → Grows S f xs ys
permuted_grown S f apart = along_permutation (Grows S f)
    (λ xs h. (h, λ v. refl))
    (λ x xs ys g h.
    let r = g h.1 in
    ((h.0, r.0), after_entries (f x) (flat_map f xs) (flat_map f ys) r.1))
    (operations_turn S f apart)
    (λ xs ys zs g k h.
    let r = g h in
    let s = k r.0 in
    (s.0, λ v. r.1 v ∙ s.1 v))
