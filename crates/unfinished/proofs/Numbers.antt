-- Which operations are among numbers that are listed, also once these are sorted and each is kept once.
use Rattle.std.proofs.Common.{◌≡◌, ◌∙◌, ◌⊎◌, ℕ, Bool, true, false, not, eqb, inl, inr, List, [], ◌∷◌, ◌++◌, refl, sym, ap, subst, ◌↔◌, ◌||◌, eqb-true, eq-eqb, true≢false, IsPermutation, IsSorted}
use Rattle.std.specs.Prelude.{◌==◌}
use Rattle.std.specs.List.{Contains, dedup, list_any}
use Rattle.std.specs.Ordering.{nat_cmp}
use Rattle.std.proofs.lemmas.Bool.{cases_Bool}
use Rattle.std.proofs.lemmas.List.Elements.{Contains-append_cases, Contains-append_left, Contains-append_right}
use Rattle.std.proofs.lemmas.List.Kept.{Contains-dedup_nat, Contains-from_dedup}
use Rattle.std.proofs.lemmas.List.Sorted.{Contains-permutation, IsPermutation-sym}
use Rattle.std.proofs.lemmas.Map.Keys.{IsStrictlyIncreasing-dedup}
use Rattle.store_trace.specs.Marks.{begun, pending}
use Rattle.store_trace.proofs.Members.{contains_cases, contains_first, contains_later, from_filter, in_filter, no_members}
use Rattle.store_trace.specs.declared.event.Event.{Event}
use Rattle.unfinished.specs.Causes.{AreUnended, IsMissing, is_among}
use Rattle.unfinished.proofs.Loops.{others}

or_first : (a b : Bool) → a ≡ true → (a || b) ≡ true
or_first true b e = refl
or_first false b e = absurd cc

or_second : (a b : Bool) → b ≡ true → (a || b) ≡ true
or_second true b e = refl
or_second false b e = e

or_cases : (a b : Bool) → (a || b) ≡ true → (a ≡ true) ⊎ (b ≡ true)
or_cases true b e = inl refl
or_cases false b e = inr e

among_true : (ops : List ℕ) (op : ℕ) → Contains ops op → is_among ops op ≡ true
among_true [] op c = absurd (no_members op c)
among_true (x ∷ ops) op c = elim (contains_cases x ops op c) [
  | inl e ↦ or_first (x == op) (is_among ops op) (eq-eqb x op e)
  | inr d ↦ or_second (x == op) (is_among ops op) (among_true ops op d)
]

pub from_among : (ops : List ℕ) (op : ℕ) → is_among ops op ≡ true → Contains ops op
from_among [] op e = absurd cc
from_among (x ∷ ops) op e = elim (or_cases (x == op) (is_among ops op) e) [
  | inl a ↦ contains_first x ops op (eqb-true x op a)
  | inr b ↦ contains_later x ops op (from_among ops op b)
]

pub among_false : (ops : List ℕ) (op : ℕ) → ¬ Contains ops op → is_among ops op ≡ false
among_false ops op n = elim (cases_Bool (is_among ops op)) [ inl e ↦ absurd (n (from_among ops op e)) | inr e ↦ e ]

pub not_among : (ops : List ℕ) (op : ℕ) → is_among ops op ≡ false → ¬ Contains ops op
not_among ops op e c = true≢false (sym (among_true ops op c) ∙ e)

not_true : (b : Bool) → not b ≡ true → b ≡ false
not_true true e = absurd cc
not_true false e = refl

-- a planned operation that never began is one of the others
missing_here : (planned : List ℕ) (events : List Event) (op : ℕ) → IsMissing planned events op → Contains (others (begun events) planned) op
missing_here planned events op m =
    in_filter (λ o. not (is_among (begun events) o)) planned op m.0 (ap not (among_false (begun events) op m.1))

here_missing : (planned : List ℕ) (events : List Event) (op : ℕ) → Contains (others (begun events) planned) op → IsMissing planned events op
here_missing planned events op c =
    let kept = from_filter (λ o. not (is_among (begun events) o)) planned op c in
    (kept.0, not_among (begun events) op (not_true (is_among (begun events) op) kept.1))

found_one : (planned : List ℕ) (events : List Event) (op : ℕ) → Contains (pending events) op ⊎ IsMissing planned events op
    → Contains (pending events ++ others (begun events) planned) op
found_one planned events op (inl c) = Contains-append_left (pending events) (others (begun events) planned) op c
found_one planned events op (inr m) =
    Contains-append_right (pending events) (others (begun events) planned) op (missing_here planned events op m)

one_found : (planned : List ℕ) (events : List Event) (op : ℕ) → Contains (pending events ++ others (begun events) planned) op
    → Contains (pending events) op ⊎ IsMissing planned events op
one_found planned events op c = elim (Contains-append_cases (pending events) (others (begun events) planned) op c) [
  | inl p ↦ inl p
  | inr o ↦ inr (here_missing planned events op o)
]

pub are_unended : (planned : List ℕ) (events : List Event) (found sorted left : List ℕ)
    → found ≡ pending events ++ others (begun events) planned → IsPermutation found sorted → IsSorted nat_cmp sorted
    → left ≡ dedup eqb sorted → AreUnended planned events left
are_unended planned events found sorted left is moved rises kept = record {
  upwards = rw kept (IsStrictlyIncreasing-dedup sorted rises);
  which = λ op. (
    λ c. one_found planned events op (subst (λ (l : List ℕ). Contains l op) is (Contains-permutation sorted found op (IsPermutation-sym found sorted moved)
        (Contains-from_dedup eqb sorted op (subst (λ (l : List ℕ). Contains l op) kept c)))),
    λ o. subst (λ (l : List ℕ). Contains l op) (sym kept) (Contains-dedup_nat sorted op (Contains-permutation found sorted op moved
        (subst (λ (l : List ℕ). Contains l op) (sym is) (found_one planned events op o)))),
  );
}
