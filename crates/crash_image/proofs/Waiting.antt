-- The cleans of a hart that wait for its fence, one event further.
use Rattle.std.proofs.Common.{◌≡◌, ℕ, ◌+◌, ◌<◌, ◌≤◌, ◌==◌, List, [], ◌∷◌, ◌++◌, length, get_or, inl, inr, arith}
use Rattle.std.proofs.lemmas.Bool.{cases_Bool}
use Rattle.std.proofs.lemmas.Bool.Decides.{nat_tests}
use Rattle.std.proofs.lemmas.Grind.{common_steps}
use Rattle.std.proofs.lemmas.List.Elements.{All-nil, All-push}
use Rattle.store_trace.proofs.Bounds.{cleaned_le_stores}
use Rattle.store_trace.specs.Floor.{cleaned, floor}
use Rattle.store_trace.specs.Stores.{stores}
use Rattle.store_trace.specs.declared.crash_model.step.PersistenceStep.{PersistenceStep}
use Rattle.store_trace.specs.declared.crash_model.step.PersistenceStep.TheVariants as step
use Rattle.crash_image.specs.Pendings.{IsHartPending}
use Rattle.crash_image.specs.declared.trace_index.build.Clean.{Clean}

-- an event that is no clean of this hart
pub waiting_stays : (count : ℕ) (p q : List PersistenceStep) (hart : ℕ) (cleans : List Clean) →
    ((l : ℕ) → floor l p ≤ floor l q) → ((l : ℕ) → cleaned l hart q ≡ cleaned l hart p) →
    IsHartPending count p hart cleans → IsHartPending count q hart cleans
waiting_stays count p q hart cleans grows same w = record {
  there = w.there;
  made = λ i d h. omega (arith, w.made i d h, same (get_or cleans i d).line);
  rest = λ l bound each low. rw (same l) (w.rest l bound each (omega (arith, grows l, low)));
}

-- a clean of this hart
pub waiting_cleaned : (count : ℕ) (p : List PersistenceStep) (hart l : ℕ) (cleans : List Clean) → l < count → IsHartPending count p hart cleans →
    IsHartPending count (step.Clean hart l ∷ p) hart (cleans ++ record { line = l; stores = stores l p } ∷ [])
waiting_cleaned count p hart l cleans b w =
    let new : Clean = record { line = l; stores = stores l p } in
    let q : List PersistenceStep = step.Clean hart l ∷ p in
    let len : length (cleans ++ new ∷ []) ≡ length cleans + 1 = grind (arith, common_steps) in
    let grown : (m : ℕ) → cleaned m hart p ≤ cleaned m hart q = λ m. grind (arith, nat_tests, cleaned_le_stores m hart p) in
    let own : stores l p ≤ cleaned l hart q = grind (arith, nat_tests) in
    record {
      there = All-push (λ (clean : Clean). clean.line < count) cleans new w.there b;
      made = All-push (λ (clean : Clean). clean.stores ≤ cleaned clean.line hart q) cleans new
          (λ i d h. omega (arith, w.made i d h, grown (get_or cleans i d).line)) own;
      rest = λ m bound each low.
          let old : cleaned m hart p ≤ bound = w.rest m bound
          (λ i d h at.
          let e : get_or (cleans ++ new ∷ []) i d ≡ get_or cleans i d = grind (arith, common_steps, h) in
          rw e at (each i d (omega (arith, len, h)) (rw e at))) low in
          let last : l ≡ m → stores l p ≤ bound = λ at.
          let e : get_or (cleans ++ new ∷ []) (length cleans) new ≡ new = grind (arith, common_steps) in
          rw e at (each (length cleans) new (omega (arith, len)) (rw e at)) in
          elim (cases_Bool (l == m)) [
            | inl same ↦
                let e : l ≡ m = grind (arith, nat_tests, same) in
                let here : stores l p ≤ bound = last e in
                rw (← e) (grind (arith, nat_tests, here))
            | inr other ↦ grind (arith, nat_tests, other, old)
          ];
    }

-- a fence of this hart
pub waiting_fenced : (count : ℕ) (p : List PersistenceStep) (hart : ℕ) → IsHartPending count (step.Fence hart ∷ p) hart []
waiting_fenced count p hart = record {
  there = All-nil _;
  made = All-nil _;
  rest = λ l bound each low. grind (arith, nat_tests, low);
}
