-- How many operations are open: of one operation, and of one hart.
use Rattle.std.proofs.Common.{◌≡◌, ℕ, suc, ◌+◌, ◌-◌, ◌<◌, ◌≤◌, ◌⊎◌, ◌==◌, ◌&&◌, Bool, true, false, inl, inr, List, [], ◌∷◌, length, refl, sym, ap, ◌∙◌, arith}
use Rattle.std.specs.Prelude.{drop, filter}
use Rattle.std.proofs.lemmas.Bool.{cases_Bool}
use Rattle.std.proofs.lemmas.Bool.Decides.{nat_tests}
use Rattle.std.proofs.lemmas.List.{length-drop}
use Rattle.store_trace.specs.declared.event.Event.{Event}
use Rattle.store_trace.specs.declared.event.Event.TheVariants.{Store, Clean, Fence, Begin, End}
use Rattle.durability.specs.Operations.{is_of_hart, is_operation, open_begins, open_of_hart, open_operations, without}

abbrev number : ((ℕ × ℕ) → Bool) → List (ℕ × ℕ) → ℕ
number test xs = length (filter test xs)

yes : (test : (ℕ × ℕ) → Bool) (x : ℕ × ℕ) (xs : List (ℕ × ℕ)) → test x ≡ true → number test (x ∷ xs) ≡ suc (number test xs)
yes test x xs is = rw is refl

no : (test : (ℕ × ℕ) → Bool) (x : ℕ × ℕ) (xs : List (ℕ × ℕ)) → test x ≡ false → number test (x ∷ xs) ≡ number test xs
no test x xs is = rw is refl

taken : (h op : ℕ) (x : ℕ × ℕ) (xs : List (ℕ × ℕ)) → is_operation h op x ≡ true → without h op (x ∷ xs) ≡ xs
taken h op x xs is = rw is refl

left : (h op : ℕ) (x : ℕ × ℕ) (xs : List (ℕ × ℕ)) → is_operation h op x ≡ false → without h op (x ∷ xs) ≡ x ∷ without h op xs
left h op x xs is = rw is refl

both_more : (test : (ℕ × ℕ) → Bool) (x : ℕ × ℕ) (xs ys : List (ℕ × ℕ)) → number test xs ≡ number test ys → number test (x ∷ xs) ≡ number test (x ∷ ys)
both_more test x xs ys same = elim (cases_Bool (test x)) [
  | inl is ↦ yes test x xs is ∙ ap (λ (n : ℕ). suc n) same ∙ sym (yes test x ys is)
  | inr isnt ↦ no test x xs isnt ∙ same ∙ sym (no test x ys isnt)
]

-- what passes no test that the one taken passes is as often there
same_number : (test : (ℕ × ℕ) → Bool) (h op : ℕ) → ((x : ℕ × ℕ) → is_operation h op x ≡ true → test x ≡ false) → (xs : List (ℕ × ℕ)) →
    number test (without h op xs) ≡ number test xs
same_number test h op apart [] = refl
same_number test h op apart (x ∷ xs) = elim (cases_Bool (is_operation h op x)) [
  | inl is ↦ ap (λ ys. number test ys) (taken h op x xs is) ∙ sym (no test x xs (apart x is))
  | inr isnt ↦ ap (λ ys. number test ys) (left h op x xs isnt) ∙ both_more test x (without h op xs) xs (same_number test h op apart xs)
]

-- what passes a test that the one taken passes is there once less
one_less : (test : (ℕ × ℕ) → Bool) (h op : ℕ) → ((x : ℕ × ℕ) → is_operation h op x ≡ true → test x ≡ true) → (xs : List (ℕ × ℕ)) →
    0 < number (is_operation h op) xs → suc (number test (without h op xs)) ≡ number test xs
one_less test h op within [] some = absurd (omega (arith, some))
one_less test h op within (x ∷ xs) some = elim (cases_Bool (is_operation h op x)) [
  | inl is ↦ ap (λ ys. suc (number test ys)) (taken h op x xs is) ∙ sym (yes test x xs (within x is))
  | inr isnt ↦
      let rest : suc (number test (without h op xs)) ≡ number test xs =
      one_less test h op within xs (omega (arith, some, no (is_operation h op) x xs isnt)) in
      ap (λ ys. suc (number test ys)) (left h op x xs isnt) ∙ (elim (cases_Bool (test x)) [
        | inl so ↦ ap (λ (n : ℕ). suc n) (yes test x (without h op xs) so) ∙ ap (λ (n : ℕ). suc n) rest ∙ sym (yes test x xs so)
        | inr other ↦ ap (λ (n : ℕ). suc n) (no test x (without h op xs) other) ∙ rest ∙ sym (no test x xs other)
      ])
]

-- where it isn't there, nothing is taken
none_taken : (h op : ℕ) (xs : List (ℕ × ℕ)) → number (is_operation h op) xs ≡ 0 → without h op xs ≡ xs
none_taken h op [] none = refl
none_taken h op (x ∷ xs) none = elim (cases_Bool (is_operation h op x)) [
  | inl is ↦ absurd (omega (arith, none, yes (is_operation h op) x xs is))
  | inr isnt ↦
      left h op x xs isnt
      ∙ ap (λ ys. x ∷ ys) (none_taken h op xs (sym (no (is_operation h op) x xs isnt) ∙ none))
]

none_or_some : (n : ℕ) → (n ≡ 0) ⊎ (0 < n)
none_or_some n = grind (arith, nat_tests)

-- of one operation
itself_less : (h op : ℕ) (xs : List (ℕ × ℕ)) → number (is_operation h op) (without h op xs) ≡ number (is_operation h op) xs - 1
itself_less h op xs = elim (none_or_some (number (is_operation h op) xs)) [
  | inl none ↦
      let same : number (is_operation h op) (without h op xs) ≡ number (is_operation h op) xs =
      ap (λ ys. number (is_operation h op) ys) (none_taken h op xs none) in
      omega (arith, none, same)
  | inr some ↦ omega (arith, one_less (is_operation h op) h op (λ x is. is) xs some)
]

apart : (g other h op : ℕ) → ((g == h) && (other == op)) ≡ false → (x : ℕ × ℕ) → is_operation g other x ≡ true → is_operation h op x ≡ false
apart g other h op not_both x is = grind (arith, nat_tests)

-- an operation is there as often as it has open Begins
pub as_often : (h op : ℕ) (p : List Event) → number (is_operation h op) (open_operations p) ≡ length (open_begins h op p)
as_often h op [] = refl
as_often h op (Store g l o w v ∷ p) = as_often h op p
as_often h op (Clean g l ∷ p) = as_often h op p
as_often h op (Fence g ∷ p) = as_often h op p
as_often h op (Begin g other ∷ p) = elim (cases_Bool ((g == h) && (other == op))) [
  | inl both ↦ rw both (ap (λ (n : ℕ). suc n) (as_often h op p))
  | inr not_both ↦ rw not_both (as_often h op p)
]
as_often h op (End g other ∷ p) = elim (cases_Bool ((g == h) && (other == op))) [
  | inl both ↦
      let hart : g ≡ h = grind (arith, nat_tests, both) in
      let operation : other ≡ op = grind (arith, nat_tests, both) in
      let less : number (is_operation h op) (without g other (open_operations p)) ≡ length (open_begins h op p) - 1 =
      rw (hart, operation) (itself_less h op (open_operations p) ∙ ap (λ (n : ℕ). n - 1) (as_often h op p)) in
      let closed : open_begins h op (End g other ∷ p) ≡ drop 1 (open_begins h op p) = rw both refl in
      rw closed (less ∙ sym (length-drop 1 (open_begins h op p)))
  | inr not_both ↦
      let same : number (is_operation h op) (without g other (open_operations p)) ≡ number (is_operation h op) (open_operations p) =
      same_number (is_operation h op) g other (apart g other h op not_both) (open_operations p) in
      rw not_both (same ∙ as_often h op p)
]

-- of one hart
hart_of_it : (h op : ℕ) (x : ℕ × ℕ) → is_operation h op x ≡ true → is_of_hart h x ≡ true
hart_of_it h op x is = grind (arith, nat_tests)

other_hart : (g op h : ℕ) → (g == h) ≡ false → (x : ℕ × ℕ) → is_operation g op x ≡ true → is_of_hart h x ≡ false
other_hart g op h other x is = grind (arith, nat_tests)

pub begin_of_hart : (h op : ℕ) (p : List Event) → open_of_hart h (Begin h op ∷ p) ≡ open_of_hart h p + 1
begin_of_hart h op p =
    let test : is_of_hart h (h, op) ≡ true = grind (arith, nat_tests) in
    omega (arith, yes (is_of_hart h) (h, op) (open_operations p) test)

pub begin_of_other : (g op h : ℕ) (p : List Event) → (g == h) ≡ false → open_of_hart h (Begin g op ∷ p) ≡ open_of_hart h p
begin_of_other g op h p other = no (is_of_hart h) (g, op) (open_operations p) other

pub end_of_hart : (h op : ℕ) (p : List Event) → 0 < length (open_begins h op p) → open_of_hart h p ≡ open_of_hart h (End h op ∷ p) + 1
end_of_hart h op p some =
    omega (arith, one_less (is_of_hart h) h op (hart_of_it h op) (open_operations p) (omega (arith, some, as_often h op p)))

pub end_of_other : (g op h : ℕ) (p : List Event) → (g == h) ≡ false → open_of_hart h (End g op ∷ p) ≡ open_of_hart h p
end_of_other g op h p other = same_number (is_of_hart h) g op (other_hart g op h other) (open_operations p)

pub end_of_none : (g op h : ℕ) (p : List Event) → open_begins g op p ≡ [] → open_of_hart h (End g op ∷ p) ≡ open_of_hart h p
end_of_none g op h p none =
    let empty : length (open_begins g op p) ≡ 0 = ap (λ (ns : List ℕ). length ns) none in
    ap (λ xs. number (is_of_hart h) xs) (none_taken g op (open_operations p) (as_often g op p ∙ empty))

-- no more than the events
no_more : (test : (ℕ × ℕ) → Bool) (h op : ℕ) (xs : List (ℕ × ℕ)) → number test (without h op xs) ≤ number test xs
no_more test h op [] = omega arith
no_more test h op (x ∷ xs) = elim (cases_Bool (is_operation h op x)) [
  | inl is ↦ elim (cases_Bool (test x)) [
    | inl so ↦ omega (arith, ap (λ ys. number test ys) (taken h op x xs is), yes test x xs so)
    | inr other ↦ omega (arith, ap (λ ys. number test ys) (taken h op x xs is), no test x xs other)
  ]
  | inr isnt ↦ elim (cases_Bool (test x)) [
    | inl so ↦
        omega (arith, ap (λ ys. number test ys) (left h op x xs isnt), yes test x xs so, yes test x (without h op xs) so, no_more test h op xs)
    | inr other ↦
        omega (arith, ap (λ ys. number test ys) (left h op x xs isnt), no test x xs other, no test x (without h op xs) other, no_more test h op xs)
  ]
]

pub few_of_hart : (h : ℕ) (p : List Event) → open_of_hart h p ≤ length p
few_of_hart h [] = omega arith
few_of_hart h (Store g l o w v ∷ p) = omega (arith, few_of_hart h p)
few_of_hart h (Clean g l ∷ p) = omega (arith, few_of_hart h p)
few_of_hart h (Fence g ∷ p) = omega (arith, few_of_hart h p)
few_of_hart h (Begin g op ∷ p) = elim (cases_Bool (g == h)) [
  | inl is ↦ omega (arith, yes (is_of_hart h) (g, op) (open_operations p) is, few_of_hart h p)
  | inr isnt ↦ omega (arith, no (is_of_hart h) (g, op) (open_operations p) isnt, few_of_hart h p)
]
few_of_hart h (End g op ∷ p) = omega (arith, no_more (is_of_hart h) g op (open_operations p), few_of_hart h p)

-- none of the hart, so that none of its numbers has a Begin
none_of_it : (h op : ℕ) (xs : List (ℕ × ℕ)) → number (is_of_hart h) xs ≡ 0 → number (is_operation h op) xs ≡ 0
none_of_it h op [] none = refl
none_of_it h op (x ∷ xs) none = elim (cases_Bool (is_of_hart h x)) [
  | inl is ↦ absurd (omega (arith, none, yes (is_of_hart h) x xs is))
  | inr isnt ↦
      let test : is_operation h op x ≡ false = grind (arith, nat_tests, isnt) in
      no (is_operation h op) x xs test ∙ none_of_it h op xs (sym (no (is_of_hart h) x xs isnt) ∙ none)
]

empty : (ns : List ℕ) → length ns ≡ 0 → ns ≡ []
empty [] e = refl
empty (n ∷ ns) e = absurd (omega (arith, e))

pub outside : (h op : ℕ) (p : List Event) → open_of_hart h p ≡ 0 → open_begins h op p ≡ []
outside h op p none = empty (open_begins h op p) (sym (as_often h op p) ∙ none_of_it h op (open_operations p) none)

-- one of the hart, so that its number has a Begin
one_of_it : (h : ℕ) (xs : List (ℕ × ℕ)) → 0 < number (is_of_hart h) xs → ((op : ℕ) → number (is_operation h op) xs ≡ 0) → ⊥
one_of_it h [] some none = absurd (omega (arith, some))
one_of_it h (x ∷ xs) some none = elim (cases_Bool (is_of_hart h x)) [
  | inl is ↦
      let test : is_operation h x.1 x ≡ true = grind (arith, nat_tests, is) in
      absurd (omega (arith, none x.1, yes (is_operation h x.1) x xs test))
  | inr isnt ↦
      one_of_it h xs (omega (arith, some, no (is_of_hart h) x xs isnt))
      (λ op.
      let test : is_operation h op x ≡ false = grind (arith, nat_tests, isnt) in
      sym (no (is_operation h op) x xs test) ∙ none op)
]

pub inside : (h : ℕ) (p : List Event) → 0 < open_of_hart h p → ((op : ℕ) → open_begins h op p ≡ []) → ⊥
inside h p some none =
    one_of_it h (open_operations p) some (λ op. as_often h op p ∙ ap (λ (ns : List ℕ). length ns) (none op))
