-- Pending operations in any order: how often each stands there.
use Rattle.std.proofs.Common.{◌≡◌, ℕ, ◌+◌, ◌<◌, Bool, true, false, not, cond, ◌&&◌, inl, inr, List, [], ◌∷◌, ◌++◌, refl, sym, ap, ◌∙◌, subst, arith, eqb-true, eq-eqb, IsPermutation}
use Rattle.std.specs.Prelude.{◌==◌, filter}
use Rattle.std.specs.List.{Contains, remove}
use Rattle.std.proofs.lemmas.Bool.{cases_Bool}
use Rattle.std.proofs.lemmas.List.Sorted.{IsPermutation-cons, IsPermutation-refl, IsPermutation-remove, IsPermutation-sym, IsPermutation-trans, sum_by-IsPermutation}
use Rattle.std.proofs.lemmas.List.Sums.{sum_by-append, sum_by-cons}
use Rattle.image_check.specs.Growth.{begun_on, times}
use Rattle.image_check.specs.declared.legal.UnderWay.{UnderWay}
use Rattle.store_trace.proofs.Members.{contains_cases, contains_first, contains_later, no_members}

abbrev pub is_on : ℕ → ℕ → UnderWay → Bool
is_on hart op u = u.hart == hart && u.op == op

abbrev one_if : ℕ → ℕ → UnderWay → ℕ
one_if hart op u = cond (is_on hart op u) 1 0

pub times_first : (hart op : ℕ) (u : UnderWay) (us : List UnderWay) → times hart op (u ∷ us) ≡ one_if hart op u + times hart op us
times_first hart op u us = sum_by-cons (one_if hart op) u us

pub times_permuted : (hart op : ℕ) (us vs : List UnderWay) → IsPermutation us vs → times hart op vs ≡ times hart op us
times_permuted hart op us vs p = sum_by-IsPermutation (one_if hart op) us vs p

pub times_last : (hart op : ℕ) (us : List UnderWay) (u : UnderWay) → times hart op (us ++ u ∷ []) ≡ one_if hart op u + times hart op us
times_last hart op us u =
    let parts : times hart op (us ++ u ∷ []) ≡ times hart op us + times hart op (u ∷ []) = sum_by-append (one_if hart op) us (u ∷ []) in
    let one : times hart op (u ∷ []) ≡ one_if hart op u + 0 = times_first hart op u [] in
    omega (arith, parts, one)

-- without one operation
without_counted : (a b c : Bool) (hart op : ℕ) (u : UnderWay) (us : List UnderWay) (n : ℕ) → is_on hart op u ≡ a → (a ≡ true → b ≡ c) →
    times hart op us ≡ cond c n 0 → times hart op (cond b (u ∷ us) us) ≡ cond c (cond {A = ℕ} a 1 0 + n) 0
without_counted true b c hart op u us n is same e =
    kept_counted b c (same refl) e
  where
    kept_counted : (b c : Bool) → b ≡ c → times hart op us ≡ cond c n 0 → times hart op (cond b (u ∷ us) us) ≡ cond c (1 + n) 0
    kept_counted true true same e = omega (arith, times_first hart op u us, ap (λ (x : Bool). cond {A = ℕ} x 1 0) is, e)
    kept_counted true false same e = absurd cc
    kept_counted false true same e = absurd cc
    kept_counted false false same e = e
without_counted false b c hart op u us n is same e =
    let z : n ≡ 0 + n = omega arith in
    other_counted b (subst (λ (k : ℕ). times hart op us ≡ cond c k 0) z e)
  where
    other_counted : (b : Bool) → times hart op us ≡ cond c (0 + n) 0 → times hart op (cond b (u ∷ us) us) ≡ cond c (0 + n) 0
    other_counted true e = omega (arith, times_first hart op u us, ap (λ (x : Bool). cond {A = ℕ} x 1 0) is, e)
    other_counted false e = e

and_second : (a b : Bool) → (a && b) ≡ true → b ≡ true
and_second true b e = e
and_second false b e = absurd cc

pub times_without : (hart op gone : ℕ) (us : List UnderWay) →
    times hart op (filter (λ u. not (gone == u.op)) us) ≡ cond (not (gone == op)) (times hart op us) 0
times_without hart op gone [] = none (not (gone == op))
  where
    none : (c : Bool) → 0 ≡ cond {A = ℕ} c 0 0
    none true = refl
    none false = refl
times_without hart op gone (u ∷ us) =
    without_counted (is_on hart op u) (not (gone == u.op)) (not (gone == op)) hart op u (filter (λ v. not (gone == v.op)) us) (times hart op us) refl
    (λ is. ap (λ (x : ℕ). not (gone == x)) (eqb-true u.op op (and_second (u.hart == hart) (u.op == op) is)))
    (times_without hart op gone us)
    ∙ ap (λ (n : ℕ). cond (not (gone == op)) n 0) (sym (times_first hart op u us))

-- what stands there at all
both_true : (a b : Bool) → a ≡ true → b ≡ true → (a && b) ≡ true
both_true true b p q = q
both_true false b p q = absurd cc

and_first : (a b : Bool) → (a && b) ≡ true → a ≡ true
and_first true b e = refl
and_first false b e = absurd cc

pub on_itself : (u : UnderWay) → is_on u.hart u.op u ≡ true
on_itself u = both_true (u.hart == u.hart) (u.op == u.op) (eq-eqb u.hart u.hart refl) (eq-eqb u.op u.op refl)

pub same_mark : (hart op : ℕ) (u : UnderWay) → is_on hart op u ≡ true → u ≡ begun_on hart op
same_mark hart op u is =
    let h : u.hart ≡ hart = eqb-true u.hart hart (and_first (u.hart == hart) (u.op == op) is) in
    let o : u.op ≡ op = eqb-true u.op op (and_second (u.hart == hart) (u.op == op) is) in
    ap (λ (x : ℕ). begun_on x u.op) h ∙ ap (λ (x : ℕ). begun_on hart x) o

pub counted : (u : UnderWay) (us : List UnderWay) → Contains us u → 0 < times u.hart u.op us
counted u [] c = absurd (no_members u c)
counted u (v ∷ us) c = elim (contains_cases v us u c) [
  | inl e ↦
      let is : is_on u.hart u.op v ≡ true = ap (λ (x : UnderWay). is_on u.hart u.op x) e ∙ on_itself u in
      let one : one_if u.hart u.op v ≡ 1 = ap (λ (b : Bool). cond {A = ℕ} b 1 0) is in
      omega (arith, times_first u.hart u.op v us, one)
  | inr d ↦ omega (arith, times_first u.hart u.op v us, counted u us d)
]

pub found_counted : (hart op : ℕ) (us : List UnderWay) → 0 < times hart op us → Contains us (begun_on hart op)
found_counted hart op [] h = absurd (omega arith)
found_counted hart op (u ∷ us) h = elim (cases_Bool (is_on hart op u)) [
  | inl t ↦ contains_first u us (begun_on hart op) (same_mark hart op u t)
  | inr f ↦
      let none : one_if hart op u ≡ 0 = ap (λ (b : Bool). cond {A = ℕ} b 1 0) f in
      contains_later u us (begun_on hart op) (found_counted hart op us (omega (arith, times_first hart op u us, none, h)))
]

-- lists that have each as often are permutations of each other
pub permuted : (us vs : List UnderWay) → ((hart op : ℕ) → times hart op us ≡ times hart op vs) → IsPermutation us vs
permuted [] [] h = IsPermutation-refl []
permuted [] (v ∷ vs) h =
    let some : 0 < times v.hart v.op (v ∷ vs) = counted v (v ∷ vs) (contains_first v vs v refl) in
    let none : 0 ≡ times v.hart v.op (v ∷ vs) = h v.hart v.op in
    absurd (omega arith)
permuted (u ∷ us) vs h =
    let some : 0 < times u.hart u.op (u ∷ us) = counted u (u ∷ us) (contains_first u us u refl) in
    let there : Contains vs u = found_counted u.hart u.op vs (subst (λ (n : ℕ). 0 < n) (h u.hart u.op) some) in
    let moved : IsPermutation vs (u ∷ remove vs there.0) = IsPermutation-remove vs there.0 u there.1 (sym there.2) in
    IsPermutation-trans (u ∷ us) (u ∷ remove vs there.0) vs
    (IsPermutation-cons u us (remove vs there.0)
    (permuted us (remove vs there.0) (λ hart op.
    omega (arith, h hart op, times_first hart op u us, times_first hart op u (remove vs there.0), times_permuted hart op vs (u ∷ remove vs there.0) moved))))
    (IsPermutation-sym vs (u ∷ remove vs there.0) moved)
