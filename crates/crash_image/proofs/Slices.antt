-- The items of a vector after a call that wrote to all of them, and after a push.
use Rattle.std.proofs.Common.{◌≡◌, ℕ, ◌+◌, ◌<◌, List, [], ◌∷◌, ◌++◌, length, get_or, take, drop, inl, inr, arith}
use Rattle.std.proofs.lemmas.Bool.{cases_lt}
use Rattle.std.proofs.lemmas.Grind.{common_steps}
use Rattle.std.proofs.lemmas.List.{append-nil, drop_all, take_all}

pub written : {A : Type 0} → (items new : List A) (len : ℕ) → len ≡ length items → length new ≡ length items →
    take len (new ++ drop (length new) items) ≡ new
written items new len all same =
    rw (drop_all (length new) items (omega (arith, same)), append-nil) (take_all len new (omega (arith, all, same)))

-- what holds of each item and of the pushed one holds of all
pub one_more : {A : Type 0} → (P : ℕ → A → Type 0) (items next : List A) (i : ℕ) (x : A) → length items ≡ i → next ≡ items ++ x ∷ [] → P i x →
    ((k : ℕ) (d : A) → k < i → P k (get_or items k d)) → (k : ℕ) (d : A) → k < i + 1 → P k (get_or next k d)
one_more P items next i x len pushed here each k d h = elim (cases_lt k i) [
  | inl low ↦
      let same : get_or next k d ≡ get_or items k d = grind (arith, common_steps, pushed, low, len) in
      rw same (each k d low)
  | inr high ↦
      let last : k ≡ i = omega (arith, h, high) in
      let same : get_or next i d ≡ x = grind (arith, common_steps, pushed, len) in
      rw (last, same) here
]
