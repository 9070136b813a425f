-- Steps of harts on lines of their own commute.
use Rattle.std.proofs.Common.{◌≡◌, ◌≢◌, ℕ, List, [], ◌∷◌, ◌++◌, arith, refl, sym, ap, ◌∙◌}
use Rattle.std.proofs.lemmas.Bool.Decides.{nat_tests}
use Rattle.store_trace.specs.declared.crash_model.step.PersistenceStep.{PersistenceStep}
use Rattle.store_trace.specs.declared.crash_model.step.PersistenceStep.TheVariants.{Store, Clean, Fence, Evict}
use Rattle.schedule_states.specs.Persisting.{IsApart, Persisted, persisted, with_step, with_steps}

pub persisted_more : (x : PersistenceStep) (p : List PersistenceStep) → persisted (x ∷ p) ≡ with_step (persisted p) x
persisted_more (Store m o w v) p = refl
persisted_more (Clean g m) p = refl
persisted_more (Fence g) p = refl
persisted_more (Evict m) p = refl

pub persisted_append : (xs p : List PersistenceStep) → persisted (xs ++ p) ≡ with_steps (persisted p) xs
persisted_append [] p = refl
persisted_append (x ∷ xs) p = persisted_more x (xs ++ p) ∙ ap (λ (v : Persisted). with_step v x) (persisted_append xs p)

pub same_persisted : (v w : Persisted) → ((l : ℕ) → v.stores l ≡ w.stores l) → ((l : ℕ) → v.floor l ≡ w.floor l) → ((l h : ℕ) → v.cleaned l h ≡ w.cleaned l h) →
    ((start : List ℕ) (l k : ℕ) → v.line start l k ≡ w.line start l k) → v ≡ w
same_persisted v w stores floor cleaned line = λ i. record {
  stores = λ l. stores l i;
  floor = λ l. floor l i;
  cleaned = λ l h. cleaned l h i;
  line = λ start l k. line start l k i;
}

store_store : (v : Persisted) (l o w x m o' w' x' : ℕ) → m ≢ l →
    with_step (with_step v (Store l o w x)) (Store m o' w' x') ≡ with_step (with_step v (Store m o' w' x')) (Store l o w x)
store_store v l o w x m o' w' x' other = same_persisted _ _
    (λ k. grind (arith, nat_tests, other)) (λ k. refl) (λ k h. refl) (λ start k n. grind (arith, nat_tests, other))

store_clean : (v : Persisted) (l o w x g m : ℕ) → m ≢ l →
    with_step (with_step v (Store l o w x)) (Clean g m) ≡ with_step (with_step v (Clean g m)) (Store l o w x)
store_clean v l o w x g m other = same_persisted _ _ (λ k. refl) (λ k. refl) (λ k h. grind (arith, nat_tests, other)) (λ start k n. refl)

store_fence : (v : Persisted) (l o w x g : ℕ) → with_step (with_step v (Store l o w x)) (Fence g) ≡ with_step (with_step v (Fence g)) (Store l o w x)
store_fence v l o w x g = refl

clean_clean : (v : Persisted) (h l g m : ℕ) → m ≢ l →
    with_step (with_step v (Clean h l)) (Clean g m) ≡ with_step (with_step v (Clean g m)) (Clean h l)
clean_clean v h l g m other = same_persisted _ _ (λ k. refl) (λ k. refl) (λ k f. grind (arith, nat_tests, other)) (λ start k n. refl)

clean_fence : (v : Persisted) (h l g : ℕ) → g ≢ h →
    with_step (with_step v (Clean h l)) (Fence g) ≡ with_step (with_step v (Fence g)) (Clean h l)
clean_fence v h l g other = same_persisted _ _ (λ k. refl) (λ k. grind (arith, nat_tests, other)) (λ k f. refl) (λ start k n. refl)

pub store_apart : (v : Persisted) (h l o w x : ℕ) (y : PersistenceStep) → IsApart h l y →
    with_step (with_step v (Store l o w x)) y ≡ with_step (with_step v y) (Store l o w x)
store_apart v h l o w x (Store m o' w' x') apart = store_store v l o w x m o' w' x' apart
store_apart v h l o w x (Clean g m) apart = store_clean v l o w x g m apart
store_apart v h l o w x (Fence g) apart = store_fence v l o w x g
store_apart v h l o w x (Evict m) apart = refl

pub clean_apart : (v : Persisted) (h l : ℕ) (y : PersistenceStep) → IsApart h l y →
    with_step (with_step v (Clean h l)) y ≡ with_step (with_step v y) (Clean h l)
clean_apart v h l (Store m o w x) apart = sym (store_clean v m o w x h l (λ e. apart (sym e)))
clean_apart v h l (Clean g m) apart = clean_clean v h l g m apart
clean_apart v h l (Fence g) apart = clean_fence v h l g apart
clean_apart v h l (Evict m) apart = refl
