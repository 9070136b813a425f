-- The least number of each line that gives the bytes that are sought, one store further each.
use Rattle.std.proofs.Common.{◌≡◌, ℕ, ◌+◌, ◌<◌, ◌≤◌, ◌==◌, ◌&&◌, nat_lt, nat_le, Bool, true, false, Option, Some, None, List, [], ◌∷◌, length, get_or, set, inl, inr, refl, ap, ◌∙◌, sym, subst, arith}
use Rattle.std.specs.Prelude.{if◌then◌else◌, ◌↔◌, slice_set, IsTrue}
use Rattle.std.proofs.lemmas.Bool.{cases_Bool}
use Rattle.std.proofs.lemmas.Bool.Decides.{nat_tests}
use Rattle.std.proofs.lemmas.Grind.{common_steps}
use Rattle.store_trace.proofs.Images.{line_after_store}
use Rattle.store_trace.specs.Image.{line_after}
use Rattle.store_trace.specs.Stores.{stores}
use Rattle.store_trace.specs.declared.crash_model.step.PersistenceStep.{PersistenceStep}
use Rattle.store_trace.specs.declared.crash_model.step.PersistenceStep.TheVariants as step
use Rattle.line_memory.specs.Lines.{line_at}
use Rattle.word_bits.specs.Bytes.{stored}
use Rattle.crash_image.specs.LeastCut.{IsLeastNumber, IsSought, AreSought, number_after, looked}
use Rattle.crash_image.specs.declared.search.Sought.{Sought}

-- the same below a number
abbrev pub IsLeastBelow : List ℕ → List ℕ → ℕ → ℕ → List PersistenceStep → ℕ → Option ℕ → Type 0
IsLeastBelow start wanted low l p c None = (k : ℕ) → low ≤ k → k < c → ¬ (line_after start l k p ≡ wanted)
IsLeastBelow start wanted low l p c (Some n) =
    (low ≤ n) × (n < c) × (line_after start l n p ≡ wanted)
    × ((k : ℕ) → low ≤ k → k < n → ¬ (line_after start l k p ≡ wanted))

-- the number at hand, after those below it
look_none : (start wanted : List ℕ) (low l c : ℕ) (p : List PersistenceStep) (fits same : Bool) → c ≡ stores l p →
    fits ≡ nat_le low c → (IsTrue same ↔ (line_after start l c p ≡ wanted)) →
    IsLeastBelow start wanted low l p c None → IsLeastNumber start wanted low l p (number_after None (fits && same) c)
look_none start wanted low l c p true true e f is below =
    (grind (arith, nat_tests, f), omega (arith, e), is.0 refl, below)
look_none start wanted low l c p true false e f is below = λ k a b h.
    elim (cases_Bool (nat_lt k c)) [
      | inl less ↦ below k a (grind (arith, nat_tests, less)) h
      | inr more ↦
          let here : k ≡ c = grind (arith, nat_tests, more, b, e) in
          let found : false ≡ true = is.1 (rw here at h) in
          cc
    ]
look_none start wanted low l c p false same e f is below = λ k a b h.
    below k a (grind (arith, nat_tests, f, a, b, e)) h

look_least : (start wanted : List ℕ) (low l c : ℕ) (p : List PersistenceStep) (number : Option ℕ) (same : Bool) → c ≡ stores l p →
    (IsTrue same ↔ (line_after start l c p ≡ wanted)) →
    IsLeastBelow start wanted low l p c number → IsLeastNumber start wanted low l p (number_after number (nat_le low c && same) c)
look_least start wanted low l c p None same e is below = look_none start wanted low l c p (nat_le low c) same e refl is below
look_least start wanted low l c p (Some n) same e is below = (below.0, omega (arith, below.1, e), below.2, below.3)

pub unmoved_least : (start wanted : List ℕ) (low l : ℕ) (same : Bool) (y : Sought) → (IsTrue same ↔ (start ≡ wanted)) →
    y ≡ looked same (record { floor = low; stores = 0; number = None }) → IsSought start wanted low l 0 [] y
unmoved_least start wanted low l same y is e = rw e (record {
  floor_is = refl;
  stores_is = refl;
  few = omega arith;
  number_is = look_least start wanted low l 0 [] None same refl is (λ k a b h. absurd (omega (arith, b)));
})

-- one store further, the numbers of a line that were looked at are those below the one at hand
least_below : (start wanted : List ℕ) (low l o w v : ℕ) (p : List PersistenceStep) (number : Option ℕ) →
    IsLeastNumber start wanted low l p number → IsLeastBelow start wanted low l (step.Store l o w v ∷ p) (stores l p + 1) number
least_below start wanted low l o w v p None least = λ k a b.
    let same : line_after start l k (step.Store l o w v ∷ p) ≡ line_after start l k p = grind (arith, nat_tests, b) in
    λ h. least k a (omega (arith, b)) (sym same ∙ h)
least_below start wanted low l o w v p (Some n) least = (
  least.0,
  omega (arith, least.1),
  (let same : line_after start l n (step.Store l o w v ∷ p) ≡ line_after start l n p = grind (arith, nat_tests, least.1) in same ∙ least.2),
  λ k a b.
      let same : line_after start l k (step.Store l o w v ∷ p) ≡ line_after start l k p = grind (arith, nat_tests, b, least.1) in
      λ h. least.3 k a b (sym same ∙ h),
)

-- a store of another line
least_other : (start wanted : List ℕ) (low l m o w v : ℕ) (p : List PersistenceStep) (number : Option ℕ) → (m == l) ≡ false →
    IsLeastNumber start wanted low l p number → IsLeastNumber start wanted low l (step.Store m o w v ∷ p) number
least_other start wanted low l m o w v p None other least = λ k a b.
    let same : line_after start l k (step.Store m o w v ∷ p) ≡ line_after start l k p = grind (arith, nat_tests, other) in
    λ h. least k a (grind (arith, nat_tests, b, other)) (sym same ∙ h)
least_other start wanted low l m o w v p (Some n) other least = (
  least.0,
  grind (arith, nat_tests, least.1, other),
  (let same : line_after start l n (step.Store m o w v ∷ p) ≡ line_after start l n p = grind (arith, nat_tests, other) in same ∙ least.2),
  λ k a b.
      let same : line_after start l k (step.Store m o w v ∷ p) ≡ line_after start l k p = grind (arith, nat_tests, other) in
      λ h. least.3 k a b (sym same ∙ h),
)

one_store : (start wanted : List ℕ) (low l made o w v : ℕ) (p : List PersistenceStep) (t : Sought) (same : Bool) →
    (IsTrue same ↔ (line_after start l (stores l p + 1) (step.Store l o w v ∷ p) ≡ wanted)) →
    IsSought start wanted low l made p t →
    IsSought start wanted low l (made + 1) (step.Store l o w v ∷ p) (looked same (record t { stores = t.stores + 1 }))
one_store start wanted low l made o w v p t same is s =
    let more : stores l p + 1 ≡ stores l (step.Store l o w v ∷ p) = grind (arith, nat_tests) in
    record {
      floor_is = s.floor_is;
      stores_is = ap (λ (n : ℕ). n + 1) s.stores_is ∙ more;
      few = omega (arith, s.few);
      number_is = rw (s.floor_is, s.stores_is)
          (look_least start wanted low l (stores l p + 1) (step.Store l o w v ∷ p) t.number same more is
          (least_below start wanted low l o w v p t.number s.number_is));
    }

other_store : (start wanted : List ℕ) (low l made m o w v : ℕ) (p : List PersistenceStep) (t : Sought) → (m == l) ≡ false →
    IsSought start wanted low l made p t → IsSought start wanted low l (made + 1) (step.Store m o w v ∷ p) t
other_store start wanted low l made m o w v p t other s = record {
  floor_is = s.floor_is;
  stores_is = grind (arith, nat_tests, s.stores_is, other);
  few = omega (arith, s.few);
  number_is = least_other start wanted low l m o w v p t.number other s.number_is;
}

sought_set : (ts : List Sought) (m : ℕ) (y : Sought) (l : ℕ) (d : Sought) → m < length ts →
    get_or (set ts m y) l d ≡ (if m == l then y else get_or ts l d)
sought_set ts m y l d h = elim (cases_Bool (m == l)) [
  | inl same ↦ rw same (let is : m ≡ l = grind (arith, nat_tests, same) in grind (arith, common_steps, nat_tests, is, h))
  | inr other ↦ rw other (grind (arith, common_steps, nat_tests, other))
]

pub after_store : (start wanted : List (List ℕ)) (low : ℕ → ℕ) (made : ℕ) (p : List PersistenceStep) (shown after : List (List ℕ))
    (all : List Sought) (m o w v : ℕ) (d y : Sought) (same : Bool) → m < length shown → length all ≡ length shown →
    after ≡ slice_set shown m (stored (line_at shown m) o w v) → (IsTrue same ↔ (line_at after m ≡ line_at wanted m)) →
    y ≡ looked same (record (get_or all m d) { stores = (get_or all m d).stores + 1 }) →
    AreSought start wanted low made p shown all →
    AreSought start wanted low (made + 1) (step.Store m o w v ∷ p) after (slice_set all m y)
after_store start wanted low made p shown after all m o w v d y same b size is looks e s =
    let there : m < length start = omega (arith, b, s.lines) in
    let inside : m < length all = omega (arith, b, size) in
    let line : line_at after m ≡ line_after (line_at start m) m (stores m p + 1) (step.Store m o w v ∷ p) =
    rw is (grind (arith, common_steps, b))
    ∙ ap (λ (bytes : List ℕ). stored bytes o w v) (s.shown_is m there)
    ∙ sym (line_after_store (line_at start m) m o w v p) in
    record {
      lines = rw is (grind (arith, common_steps, s.lines));
      size = grind (arith, common_steps, s.size);
      shown_is = λ l h. elim (cases_Bool (m == l)) [
        | inl here ↦
            let eq : m ≡ l = grind (arith, nat_tests, here) in
            let count : stores m p + 1 ≡ stores m (step.Store m o w v ∷ p) = grind (arith, nat_tests) in
            subst (λ (x : ℕ). line_at after x ≡ line_after (line_at start x) x (stores x (step.Store m o w v ∷ p)) (step.Store m o w v ∷ p)) eq
            (line ∙ ap (λ (n : ℕ). line_after (line_at start m) m n (step.Store m o w v ∷ p)) count)
        | inr other ↦
            let kept : line_at after l ≡ line_at shown l = rw is (grind (arith, common_steps, nat_tests, other)) in
            kept ∙ s.shown_is l h ∙ grind (arith, nat_tests, other)
      ];
      each = λ l f h. rw (sought_set all m y l f inside) (elim (cases_Bool (m == l)) [
        | inl here ↦ rw here (
            let eq : m ≡ l = grind (arith, nat_tests, here) in
            rw (e, ← eq) (one_store (line_at start m) (line_at wanted m) (low m) m made o w v p (get_or all m d) same (rw line at looks) (s.each m d there)))
        | inr other ↦ rw other (other_store (line_at start l) (line_at wanted l) (low l) l made m o w v p (get_or all l f) other (s.each l f h))
      ]);
    }
