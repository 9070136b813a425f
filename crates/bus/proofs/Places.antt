-- Lists with one element changed.
use Rattle.std.proofs.Common.{◌≡◌, ◌≢◌, ℕ, zero, suc, ◌+◌, ◌<◌, List, [], ◌∷◌, Some, length, slice_get, slice_set, slice_index_or, map, refl, sym, ap, ◌∙◌, arith}
use Rattle.std.specs.List.{range_with_len}

module _ {A : Type 0} where
  pub set_set : (l : List A) (i : ℕ) (a b : A) → slice_set (slice_set l i a) i b ≡ slice_set l i b
  set_set [] i a b = refl
  set_set (x ∷ xs) zero a b = refl
  set_set (x ∷ xs) (suc i) a b = ap (λ (t : List A). x ∷ t) (set_set xs i a b)

  pub set_got : (l : List A) (i : ℕ) (a : A) → slice_get l i ≡ Some a → slice_set l i a ≡ l
  set_got [] i a e = refl
  set_got (x ∷ xs) zero a e = let same : x ≡ a = cc in ap (λ (y : A). y ∷ xs) (sym same)
  set_got (x ∷ xs) (suc i) a e = ap (λ (t : List A). x ∷ t) (set_got xs i a e)

  pub got_set : (l : List A) (i : ℕ) (a : A) → i < length l → slice_get (slice_set l i a) i ≡ Some a
  got_set [] i a less = absurd (omega arith)
  got_set (x ∷ xs) zero a less = refl
  got_set (x ∷ xs) (suc i) a less = got_set xs i a (omega arith)

  pub got_else : (l : List A) (i j : ℕ) (a : A) → j ≢ i → slice_get (slice_set l i a) j ≡ slice_get l j
  got_else [] i j a apart = refl
  got_else (x ∷ xs) zero zero a apart = absurd (apart refl)
  got_else (x ∷ xs) zero (suc j) a apart = refl
  got_else (x ∷ xs) (suc i) zero a apart = refl
  got_else (x ∷ xs) (suc i) (suc j) a apart = got_else xs i j a (λ e. apart (ap suc e))

  pub get_of : (l : List A) (i : ℕ) (d : A) → i < length l → slice_get l i ≡ Some (slice_index_or l i d)
  get_of [] i d less = absurd (omega arith)
  get_of (x ∷ xs) zero d less = refl
  get_of (x ∷ xs) (suc i) d less = get_of xs i d (omega arith)

  pub there_is : (l : List A) (i : ℕ) → i < length l → (a : A) × (slice_get l i ≡ Some a)
  there_is [] i less = absurd (omega (arith, less))
  there_is (x ∷ xs) zero less = (x, refl)
  there_is (x ∷ xs) (suc i) less = there_is xs i (omega (arith, less))

  pub read_set : (l : List A) (i : ℕ) (a d : A) → i < length l → slice_index_or (slice_set l i a) i d ≡ a
  read_set [] i a d less = absurd (omega arith)
  read_set (x ∷ xs) zero a d less = refl
  read_set (x ∷ xs) (suc i) a d less = read_set xs i a d (omega arith)

  pub read_else : (l : List A) (i j : ℕ) (a d : A) → j ≢ i → slice_index_or (slice_set l i a) j d ≡ slice_index_or l j d
  read_else [] i j a d apart = refl
  read_else (x ∷ xs) zero zero a d apart = absurd (apart refl)
  read_else (x ∷ xs) zero (suc j) a d apart = refl
  read_else (x ∷ xs) (suc i) zero a d apart = refl
  read_else (x ∷ xs) (suc i) (suc j) a d apart = read_else xs i j a d (λ e. apart (ap suc e))

  -- a list of what f gives of each place
  pub all_from : (f : ℕ → A) (k : ℕ) (l : List A) → ((i : ℕ) (a : A) → slice_get l i ≡ Some a → a ≡ f (k + i))
      → l ≡ map f (range_with_len k (length l))
  all_from f k [] each = refl
  all_from f k (x ∷ xs) each =
      let here : x ≡ f k = each 0 x refl ∙ ap f (omega arith) in
      let rest = all_from f (k + 1) xs (λ i a got. each (suc i) a got ∙ ap f (omega arith)) in
      ap (λ (y : A). y ∷ xs) here ∙ ap (λ (t : List A). f k ∷ t) rest
