-- What is in a list that is filtered or mapped.
use Rattle.std.proofs.Common.{◌≡◌, ◌⊎◌, ℕ, zero, suc, ◌+◌, ◌<◌, Bool, true, false, cond, inl, inr, List, [], ◌∷◌, ◌++◌, length, get_or, take, refl, sym, ap, ◌∙◌, subst, arith, Option, Some, None}
use Rattle.std.specs.Prelude.{slice_index_or, filter}
use Rattle.std.specs.List.{Contains, cons_option, filter_map}
use Rattle.std.proofs.lemmas.List.{take_more}
use Rattle.std.proofs.lemmas.List.Elements.{Contains-append_cases, filter_map-append}

pub contains_first : {X : Type 0} (x : X) (xs : List X) (y : X) → x ≡ y → Contains (x ∷ xs) y
contains_first x xs y e = (0, omega arith, e)

pub contains_later : {X : Type 0} (x : X) (xs : List X) (y : X) → Contains xs y → Contains (x ∷ xs) y
contains_later x xs y c = (suc c.0, omega arith, c.2)

contains_at : {X : Type 0} (x : X) (xs : List X) (y : X) (k : ℕ) → k < length (x ∷ xs) → slice_index_or (x ∷ xs) k y ≡ y → (x ≡ y) ⊎ Contains xs y
contains_at x xs y zero h e = inl e
contains_at x xs y (suc k) h e = inr (k, omega arith, e)

pub contains_cases : {X : Type 0} (x : X) (xs : List X) (y : X) → Contains (x ∷ xs) y → (x ≡ y) ⊎ Contains xs y
contains_cases x xs y c = contains_at x xs y c.0 c.1 c.2

pub no_members : {X : Type 0} (y : X) → ¬ Contains [] y
no_members y c = let h : c.0 < 0 = c.1 in omega arith

kept_first : {X : Type 0} (b : Bool) (x : X) (xs : List X) (y : X) → b ≡ true → x ≡ y → Contains (cond b (x ∷ xs) xs) y
kept_first true x xs y t e = contains_first x xs y e
kept_first false x xs y t e = absurd cc

kept_later : {X : Type 0} (b : Bool) (x : X) (xs : List X) (y : X) → Contains xs y → Contains (cond b (x ∷ xs) xs) y
kept_later true x xs y c = contains_later x xs y c
kept_later false x xs y c = c

pub in_filter : {X : Type 0} (p : X → Bool) (xs : List X) (y : X) → Contains xs y → p y ≡ true → Contains (filter p xs) y
in_filter p [] y c t = absurd (no_members y c)
in_filter p (x ∷ xs) y c t = elim (contains_cases x xs y c) [
  | inl e ↦ kept_first (p x) x (filter p xs) y (ap p e ∙ t) e
  | inr d ↦ kept_later (p x) x (filter p xs) y (in_filter p xs y d t)
]

from_kept : {X : Type 0} (b : Bool) (x : X) (zs : List X) (y : X) → Contains (cond b (x ∷ zs) zs) y → ((b ≡ true) × (x ≡ y)) ⊎ Contains zs y
from_kept true x zs y c = elim (contains_cases x zs y c) [ inl e ↦ inl (refl, e) | inr d ↦ inr d ]
from_kept false x zs y c = inr c

pub from_filter : {X : Type 0} (p : X → Bool) (xs : List X) (y : X) → Contains (filter p xs) y → Contains xs y × (p y ≡ true)
from_filter p [] y c = absurd (no_members y c)
from_filter p (x ∷ xs) y c = elim (from_kept (p x) x (filter p xs) y c) [
  | inl w ↦ (contains_first x xs y w.1, ap p (sym w.1) ∙ w.0)
  | inr d ↦ let r : Contains xs y × (p y ≡ true) = from_filter p xs y d in (contains_later x xs y r.0, r.1)
]

in_some : {Y : Type 0} (o : Option Y) (ys : List Y) (y : Y) → o ≡ Some y → Contains (cons_option o ys) y
in_some None ys y e = absurd cc
in_some (Some z) ys y e = contains_first z ys y cc

in_rest : {Y : Type 0} (o : Option Y) (ys : List Y) (y : Y) → Contains ys y → Contains (cons_option o ys) y
in_rest None ys y c = c
in_rest (Some z) ys y c = contains_later z ys y c

pub from_some : {Y : Type 0} (o : Option Y) (ys : List Y) (y : Y) → Contains (cons_option o ys) y → (o ≡ Some y) ⊎ Contains ys y
from_some None ys y c = inr c
from_some (Some z) ys y c = elim (contains_cases z ys y c) [ inl e ↦ inl (cc) | inr d ↦ inr d ]

-- what an element of a list gives
pub mapped_here : {X Y : Type 0} (h : X → Option Y) (xs : List X) (i : ℕ) (d : X) (y : Y) → i < length xs → h (get_or xs i d) ≡ Some y → Contains (filter_map h xs) y
mapped_here h [] i d y l e = absurd (omega arith)
mapped_here h (x ∷ xs) zero d y l e = in_some (h x) (filter_map h xs) y e
mapped_here h (x ∷ xs) (suc i) d y l e = in_rest (h x) (filter_map h xs) y (mapped_here h xs i d y (omega arith) e)

-- the elements so far give none, and neither does the next
pub none_mapped : {X Y : Type 0} (h : X → Option Y) (xs : List X) (i : ℕ) (d : X) (y : Y) → i < length xs →
    ¬ Contains (filter_map h (take i xs)) y → ¬ (h (get_or xs i d) ≡ Some y) → ¬ Contains (filter_map h (take (i + 1) xs)) y
none_mapped {X = X} {Y = Y} h xs i d y l n m c =
    let x = get_or xs i d in
    let e : filter_map h (take (i + 1) xs) ≡ filter_map h (take i xs) ++ cons_option (h x) [] =
    ap (λ (zs : List X). filter_map h zs) (take_more xs i d l) ∙ filter_map-append h (take i xs) (x ∷ []) in
    elim (Contains-append_cases (filter_map h (take i xs)) (cons_option (h x) []) y (subst (λ (ys : List Y). Contains ys y) e c)) [
      | inl a ↦ n a
      | inr b ↦ elim (from_some (h x) [] y b) [ inl s ↦ m s | inr z ↦ no_members y z ]
    ]

-- where an element that was given came from
pub from_mapped : {X Y : Type 0} (h : X → Option Y) (xs : List X) (y : Y) → Contains (filter_map h xs) y → (x : X) × Contains xs x × (h x ≡ Some y)
from_mapped h [] y c = absurd (no_members y c)
from_mapped h (x ∷ xs) y c = elim (from_some (h x) (filter_map h xs) y c) [
  | inl e ↦ (x, contains_first x xs x refl, e)
  | inr d ↦ let r = from_mapped h xs y d in (r.0, contains_later x xs r.0 r.1, r.2)
]
