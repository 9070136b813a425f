-- What is written back of a line depends on no eviction of another line.
use Rattle.std.proofs.Common.{◌≡◌, ℕ, ◌+◌, ◌==◌, List, [], ◌∷◌, ◌++◌, false, if◌then◌else◌, refl, sym, ap, ◌∙◌, inl, inr, arith}
use Rattle.std.specs.Prelude.{◌&&◌}
use Rattle.std.proofs.lemmas.Bool.{cases_Bool}
use Rattle.std.proofs.lemmas.Bool.Decides.{nat_tests}
use Rattle.store_trace.specs.Floor.{cleaned}
use Rattle.store_trace.specs.Schedule.{explained, without_evictions}
use Rattle.store_trace.specs.Stores.{stores}
use Rattle.store_trace.specs.WrittenBack.{written_back}
use Rattle.store_trace.specs.declared.crash_model.step.PersistenceStep.{PersistenceStep}
use Rattle.store_trace.specs.declared.crash_model.step.PersistenceStep.TheVariants.{Store, Clean, Fence, Evict}

-- a line stands alike after either steps
pub record AreAlike (l : ℕ) (p q : List PersistenceStep) : Type 0 where
  pub stores_are : stores l p ≡ stores l q
  pub written : written_back l p ≡ written_back l q
  pub cleaned_are : (h : ℕ) → cleaned l h p ≡ cleaned l h q

pub alike_itself : (l : ℕ) (p : List PersistenceStep) → AreAlike l p p
alike_itself l p = record { stores_are = refl; written = refl; cleaned_are = λ h. refl }

pub alike_same : (l : ℕ) (p q : List PersistenceStep) → p ≡ q → AreAlike l p q
alike_same l p q same = rw same (alike_itself l q)

pub alike_then : (l : ℕ) (p q r : List PersistenceStep) → AreAlike l p q → AreAlike l q r → AreAlike l p r
alike_then l p q r a b = record {
  stores_are = a.stores_are ∙ b.stores_are;
  written = a.written ∙ b.written;
  cleaned_are = λ h. a.cleaned_are h ∙ b.cleaned_are h;
}

pub alike_back : (l : ℕ) (p q : List PersistenceStep) → AreAlike l p q → AreAlike l q p
alike_back l p q a = record {
  stores_are = sym a.stores_are;
  written = sym a.written;
  cleaned_are = λ h. sym (a.cleaned_are h);
}

-- one more step
pub alike_more : (l : ℕ) (step : PersistenceStep) (p q : List PersistenceStep) → AreAlike l p q → AreAlike l (step ∷ p) (step ∷ q)
alike_more l (Store m o w v) p q a = record {
  stores_are = ap (λ (n : ℕ). if m == l then n + 1 else n) a.stores_are;
  written = a.written;
  cleaned_are = a.cleaned_are;
}
alike_more l (Clean g m) p q a = record {
  stores_are = a.stores_are;
  written = a.written;
  cleaned_are = λ h.
      ap (λ (n : ℕ). if (g == h) && (m == l) then n else cleaned l h p) a.stores_are
      ∙ ap (λ (n : ℕ). if (g == h) && (m == l) then stores l q else n) (a.cleaned_are h);
}
alike_more l (Fence g) p q a = record {
  stores_are = a.stores_are;
  written = rw (a.stores_are, a.written, a.cleaned_are g) refl;
  cleaned_are = a.cleaned_are;
}
alike_more l (Evict m) p q a = record {
  stores_are = a.stores_are;
  written = rw (a.stores_are, a.written) refl;
  cleaned_are = a.cleaned_are;
}

pub alike_on : (l : ℕ) (more p q : List PersistenceStep) → AreAlike l p q → AreAlike l (more ++ p) (more ++ q)
alike_on l [] p q a = a
alike_on l (step ∷ more) p q a = alike_more l step (more ++ p) (more ++ q) (alike_on l more p q a)

-- an eviction of another line
pub other_evicted : (l m : ℕ) (p : List PersistenceStep) → (m == l) ≡ false → AreAlike l (Evict m ∷ p) p
other_evicted l m p other = record { stores_are = refl; written = rw other refl; cleaned_are = λ h. refl }

-- a store of another line, which may be followed by an eviction of that line
stored_beside : (k : ℕ → ℕ) (l m o w v : ℕ) (p : List PersistenceStep) → (m == l) ≡ false
    → AreAlike l (explained k (Store m o w v ∷ p)) (Store m o w v ∷ explained k p)
stored_beside k l m o w v p other = elim (cases_Bool ((stores m p + 1) == k m)) [
  | inl now ↦ rw now (other_evicted l m (Store m o w v ∷ explained k p) other)
  | inr later ↦ rw later (alike_itself l (Store m o w v ∷ explained k p))
]

-- so only the number of the line itself counts for where it stands by a schedule of evictions
stored_alike : (k j : ℕ → ℕ) (l m o w v : ℕ) (p : List PersistenceStep) → k l ≡ j l → AreAlike l (explained k p) (explained j p)
    → AreAlike l (explained k (Store m o w v ∷ p)) (explained j (Store m o w v ∷ p))
stored_alike k j l m o w v p same a = elim (cases_Bool (m == l)) [
  | inl mine ↦
      let is : m ≡ l = grind (arith, nat_tests, mine) in
      let due : ((stores m p + 1) == k m) ≡ ((stores m p + 1) == j m) =
      ap (λ (n : ℕ). (stores m p + 1) == n) (ap k is ∙ same ∙ ap j (sym is)) in
      elim (cases_Bool ((stores m p + 1) == j m)) [
        | inl now ↦ rw (due, now) (alike_more l (Evict m) _ _ (alike_more l (Store m o w v) _ _ a))
        | inr later ↦ rw (due, later) (alike_more l (Store m o w v) _ _ a)
      ]
  | inr other ↦ alike_then l _ (Store m o w v ∷ explained k p) _ (stored_beside k l m o w v p other)
      (alike_then l _ (Store m o w v ∷ explained j p) _ (alike_more l (Store m o w v) _ _ a)
      (alike_back l _ _ (stored_beside j l m o w v p other)))
]

pub explained_alike : (k j : ℕ → ℕ) (l : ℕ) (p : List PersistenceStep) → k l ≡ j l → AreAlike l (explained k p) (explained j p)
explained_alike k j l [] same = alike_itself l []
explained_alike k j l (Store m o w v ∷ p) same = stored_alike k j l m o w v p same (explained_alike k j l p same)
explained_alike k j l (Clean h m ∷ p) same = alike_more l (Clean h m) _ _ (explained_alike k j l p same)
explained_alike k j l (Fence h ∷ p) same = alike_more l (Fence h) _ _ (explained_alike k j l p same)
explained_alike k j l (Evict m ∷ p) same = explained_alike k j l p same

-- where every number is 0 nothing is evicted
none_explained : (p : List PersistenceStep) → explained (λ l. 0) p ≡ without_evictions p
none_explained [] = refl
none_explained (Store m o w v ∷ p) =
    let never : ((stores m p + 1) == 0) ≡ false = grind (arith, nat_tests) in
    rw never (ap (λ (q : List PersistenceStep). Store m o w v ∷ q) (none_explained p))
none_explained (Clean h m ∷ p) = ap (λ (q : List PersistenceStep). Clean h m ∷ q) (none_explained p)
none_explained (Fence h ∷ p) = ap (λ (q : List PersistenceStep). Fence h ∷ q) (none_explained p)
none_explained (Evict m ∷ p) = none_explained p

pub unevicted_alike : (k : ℕ → ℕ) (l : ℕ) (p : List PersistenceStep) → k l ≡ 0 → without_evictions p ≡ p → AreAlike l (explained k p) p
unevicted_alike k l p zero alone =
    let none : explained (λ m. 0) p ≡ p = none_explained p ∙ alone in
    rw none at (explained_alike k (λ m. 0) l p zero)
