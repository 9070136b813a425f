-- From cuts as numbers by line to cuts as lists: their order, and their tables.
use Rattle.std.proofs.Common.{◌≡◌, ℕ, ◌+◌, ◌<◌, ◌==◌, false, inl, inr, List, [], ◌∷◌, map, refl, sym, subst, ◌∙◌, arith, eqb-true, eq-eqb, true≢false}
use Rattle.std.proofs.lemmas.Bool.{cases_Bool, cases_eq}
use Rattle.std.specs.Prelude.{slice_index}
use Rattle.verdict.specs.Branches.{ComesBefore, IsWithin}
use Rattle.verdict.specs.Numbers.{number_over}
use Rattle.crash_image.specs.Named.{IsTable}
use Rattle.store_trace.proofs.Lines.{Upwards}
use Rattle.store_trace.specs.Cut.{IsBefore, number_in}
use Rattle.store_trace.specs.Floor.{floor}
use Rattle.store_trace.specs.Stores.{stores}
use Rattle.store_trace.specs.declared.crash_model.step.PersistenceStep.{PersistenceStep}

unequal : (a b : ℕ) → ¬ (a ≡ b) → (a == b) ≡ false
unequal a b n = elim (cases_Bool (a == b)) [ inl t ↦ absurd (n (eqb-true a b t)) | inr f ↦ f ]

-- a line below those of a cut has no number in it
none_below : (n : ℕ) (cut : List (ℕ × ℕ)) (l : ℕ) → Upwards n (map (λ e. e.0) cut) → l < n → number_in cut l ≡ 0
none_below n [] l u h = refl
none_below n (e ∷ cut) l u h =
    let other : (e.0 == l) ≡ false = unequal e.0 l (λ s. absurd (omega (arith, u.0, s, h))) in
    rw other (none_below (e.0 + 1) cut l u.1 (omega (arith, u.0, h)))

here_is : (e : ℕ × ℕ) (cut : List (ℕ × ℕ)) (l : ℕ) → e.0 ≡ l → number_in (e ∷ cut) l ≡ e.1
here_is e cut l s = rw (eq-eqb e.0 l s) refl

later_is : (e : ℕ × ℕ) (cut : List (ℕ × ℕ)) (l : ℕ) → ¬ (e.0 ≡ l) → number_in (e ∷ cut) l ≡ number_in cut l
later_is e cut l n = rw (unequal e.0 l n) refl

-- a cut before another one comes before it by line
pub before_comes : (n : ℕ) (c d : List (ℕ × ℕ)) → map (λ e. e.0) c ≡ map (λ e. e.0) d → Upwards n (map (λ e. e.0) c) → IsBefore c d →
    ComesBefore (number_in c) (number_in d)
before_comes n [] d e u h = absurd h
before_comes n (x ∷ c) [] e u h = absurd h
before_comes n (x ∷ c) (y ∷ d) e u h =
    let first : x.0 ≡ y.0 = cc in
    let rest : map (λ e. e.0) c ≡ map (λ e. e.0) d = cc in
    elim h [
      | inl less ↦
          let mine : Upwards x.0 (x.0 ∷ map (λ e. e.0) c) = (omega arith, u.1) in
          let its : Upwards x.0 (y.0 ∷ map (λ e. e.0) d) = subst (λ (ls : List ℕ). Upwards x.0 ls) e mine in
          let one : number_in (x ∷ c) x.0 ≡ x.1 = here_is x c x.0 refl in
          let other : number_in (y ∷ d) x.0 ≡ y.1 = here_is y d x.0 (sym first) in
          record {
            line = x.0;
            lower = omega (arith, one, other, less);
            same = λ m b. none_below x.0 (x ∷ c) m mine b ∙ sym (none_below x.0 (y ∷ d) m its b);
          }
      | inr both ↦
          let r = before_comes (x.0 + 1) c d rest u.1 both.1 in
          let its : Upwards (x.0 + 1) (map (λ e. e.0) d) = subst (λ (ls : List ℕ). Upwards (x.0 + 1) ls) rest u.1 in
          let past : ¬ (x.0 ≡ r.line) = λ s.
          let none = none_below (x.0 + 1) d r.line its (omega (arith, s)) in
          absurd (omega (arith, none, r.lower)) in
          let away : ¬ (y.0 ≡ r.line) = λ s. past (first ∙ s) in
          let one = later_is x c r.line past in
          let other = later_is y d r.line away in
          record {
            line = r.line;
            lower = omega (arith, one, other, r.lower);
            same = λ m b. elim (cases_Bool (x.0 == m)) [
              | inl t ↦
                  let at : x.0 ≡ m = eqb-true x.0 m t in
                  here_is x c m at ∙ both.0 ∙ sym (here_is y d m (sym first ∙ at))
              | inr f ↦
                  let off : ¬ (x.0 ≡ m) = λ s. true≢false (sym (eq-eqb x.0 m s) ∙ f) in
                  later_is x c m off ∙ r.same m b ∙ sym (later_is y d m (λ s. off (first ∙ s)))
            ];
          }
    ]

-- a table that gives a cut has, where it has a number, one within the bounds
over_raised : (low : ℕ → ℕ) (numbers : List ℕ) (l : ℕ) → ¬ (slice_index numbers l ≡ 0) → number_over low numbers l ≡ slice_index numbers l
over_raised low numbers l n = rw (unequal (slice_index numbers l) 0 n) refl

pub table_of : (p : List PersistenceStep) (numbers : List ℕ) → IsWithin (λ l. floor l p) (λ l. stores l p) (number_over (λ l. floor l p) numbers) → IsTable p numbers
table_of p numbers w l = elim (cases_eq (slice_index numbers l) 0) [
  | inl z ↦ inl z
  | inr n ↦
      let same : number_over (λ l. floor l p) numbers l ≡ slice_index numbers l = over_raised (λ l. floor l p) numbers l n in
      let low = w.least l in
      let high = w.most l in
      inr (omega (arith, same, low), omega (arith, same, high))
]
