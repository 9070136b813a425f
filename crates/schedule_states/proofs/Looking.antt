-- Values by their places in lists, and lists that keep each value in its place.
use Rattle.std.proofs.Common.{◌≡◌, ◌⊎◌, inl, inr, ℕ, zero, suc, ◌+◌, ◌<◌, ◌≤◌, Bool, true, false, cond, List, [], ◌∷◌, ◌++◌, Some, find, option_map, map, length, slice_get, refl, sym, ap, ◌∙◌, subst, arith}
use Rattle.std.proofs.lemmas.Option.{same_Some, slice_get-map, slice_get_within}
use Rattle.bus.proofs.Places.{there_is}
use Rattle.schedule_states.specs.Numbers.{AreKept}

module _ {X : Type 0} where
  -- lists one after the other
  pub got_left : (xs ys : List X) (n : ℕ) → n < length xs → slice_get (xs ++ ys) n ≡ slice_get xs n
  got_left [] ys n there = absurd (omega arith)
  got_left (x ∷ xs) ys zero there = refl
  got_left (x ∷ xs) ys (suc n) there = got_left xs ys n (omega arith)

  pub got_right : (xs ys : List X) (n : ℕ) → slice_get (xs ++ ys) (length xs + n) ≡ slice_get ys n
  got_right [] ys n = let none : 0 + n ≡ n = omega arith in rw none refl
  got_right (x ∷ xs) ys n =
      let first : suc (length xs) + n ≡ suc (length xs + n) = omega arith in
      rw first (got_right xs ys n)

  -- a list to which one is added
  pub each_pushed : (P : ℕ → X → Type 0) (xs : List X) (y : X) → ((n : ℕ) (x : X) → slice_get xs n ≡ Some x → P n x) → P (length xs) y →
      (n : ℕ) (x : X) → slice_get (xs ++ y ∷ []) n ≡ Some x → P n x
  each_pushed P [] y each last zero x got = subst (λ (z : X). P 0 z) (same_Some y x got) last
  each_pushed P [] y each last (suc n) x got = absurd cc
  each_pushed P (z ∷ xs) y each last zero x got = each 0 x got
  each_pushed P (z ∷ xs) y each last (suc n) x got = each_pushed (λ k. P (suc k)) xs y (λ k. each (suc k)) last n x got

  -- or may be
  pub got_appended : (old new : List X) (y : X) → (new ≡ old) ⊎ (new ≡ old ++ y ∷ []) → (n : ℕ) (x : X) → slice_get new n ≡ Some x → (slice_get old n ≡ Some x) ⊎ (x ≡ y)
  got_appended old new y (inl same) n x got = inl (rw same at got)
  got_appended old new y (inr more) n x got =
      each_pushed (λ k z. (slice_get old k ≡ Some z) ⊎ (z ≡ y)) old y (λ k z before. inl before) (inr refl) n x (rw more at got)

  pub kept_appended : (old new : List X) (y : X) → (new ≡ old) ⊎ (new ≡ old ++ y ∷ []) → AreKept old new
  kept_appended old new y (inl same) n x got = rw same got
  kept_appended old new y (inr more) n x got = rw more (got_left old (y ∷ []) n (slice_get_within old n x got) ∙ got)

  pub first_of_one : (new : List X) (y : X) (n : ℕ) → (new ≡ []) ⊎ (new ≡ [] ++ y ∷ []) → slice_get new n ≡ Some y → slice_get new 0 ≡ Some y
  first_of_one new y n (inl none) got = let found : slice_get [] n ≡ Some y = rw none at got in absurd cc
  first_of_one new y n (inr one) got = rw one refl

  pub first_number : (old new : List X) (y : X) (n : ℕ) (x : X) → old ≡ [] → (new ≡ old) ⊎ (new ≡ old ++ y ∷ []) → slice_get new n ≡ Some x → n ≡ 0
  first_number old new y n x none (inl same) got = let found : slice_get [] n ≡ Some x = rw (same, none) at got in absurd cc
  first_number old new y zero x none (inr more) got = refl
  first_number old new y (suc n) x none (inr more) got = let found : slice_get ([] ++ y ∷ []) (suc n) ≡ Some x = rw (more, none) at got in absurd cc

  pub inserted : (test : Bool) (xs : List X) (y : X) → (cond test xs (xs ++ y ∷ []) ≡ xs) ⊎ (cond test xs (xs ++ y ∷ []) ≡ xs ++ y ∷ [])
  inserted true xs y = inl refl
  inserted false xs y = inr refl

  pub kept_inserted : (test : Bool) (xs : List X) (y : X) → AreKept xs (cond test xs (xs ++ y ∷ []))
  kept_inserted true xs y n x got = got
  kept_inserted false xs y n x got = got_left xs (y ∷ []) n (slice_get_within xs n x got) ∙ got

  -- what a search for the first one that passes a test finds
  pub found_passes : (test : X → Bool) (xs : List X) (x : X) → find test xs ≡ Some x → test x ≡ true
  found_passes test [] x found = absurd cc
  found_passes test (y ∷ xs) x found = go (test y) refl found (found_passes test xs x) where
    go : (b : Bool) → test y ≡ b → cond b (Some y) (find test xs) ≡ Some x → (find test xs ≡ Some x → test x ≡ true) → test x ≡ true
    go true passes same later = subst (λ (z : X). test z ≡ true) (same_Some y x same) passes
    go false fails rest later = later rest

  -- lists that keep each value
  pub within_kept : (old new : List X) (n : ℕ) → AreKept old new → n < length old → n < length new
  within_kept old new n kept there =
      let at : (x : X) × (slice_get old n ≡ Some x) = there_is old n there in
      slice_get_within new n at.0 (kept n at.0 at.1)

  pub longer_kept : (old new : List X) → AreKept old new → length old ≤ length new
  longer_kept [] new kept = omega arith
  longer_kept (x ∷ xs) new kept = let last : length xs < length new = within_kept (x ∷ xs) new (length xs) kept (omega arith) in omega (arith, last)

  pub got_kept : (old new : List X) (n : ℕ) (x : X) → AreKept old new → n < length old → slice_get new n ≡ Some x → slice_get old n ≡ Some x
  got_kept old new n x kept there got =
      let at : (y : X) × (slice_get old n ≡ Some y) = there_is old n there in
      at.1 ∙ sym (kept n at.0 at.1) ∙ got

-- so is what is seen of them
got_before : {X Y : Type 0} (f : X → Y) (xs : List X) (n : ℕ) (y : Y) → slice_get (map f xs) n ≡ Some y → (x : X) × (slice_get xs n ≡ Some x) × (f x ≡ y)
got_before f [] n y got = absurd cc
got_before f (x ∷ xs) zero y got = (x, refl, same_Some (f x) y got)
got_before f (x ∷ xs) (suc n) y got = got_before f xs n y got

pub kept_seen : {X Y : Type 0} (f : X → Y) (old new : List X) → AreKept old new → AreKept (map f old) (map f new)
kept_seen f old new kept n y got =
    let at : (x : _) × (slice_get old n ≡ Some x) × (f x ≡ y) = got_before f old n y got in
    slice_get-map f new n ∙ ap (option_map f) (kept n at.0 at.1) ∙ ap (λ (z : _). Some z) at.2

-- so is the value at a place behind the first ones
pub seen_behind : {X Y : Type 0} (f : X → Y) (xs ys : List X) (n : ℕ) (y : X) → slice_get ys n ≡ Some y → slice_get (map f (xs ++ ys)) (length xs + n) ≡ Some (f y)
seen_behind f xs ys n y got = slice_get-map f (xs ++ ys) (length xs + n) ∙ ap (option_map f) (got_right xs ys n ∙ got)
