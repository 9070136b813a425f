-- The first End of an operation, and until when the operation is pending.
use Rattle.std.proofs.Common.{◌≡◌, ◌⊎◌, ℕ, zero, suc, ◌+◌, ◌<◌, ◌≤◌, true, false, inl, inr, List, [], ◌∷◌, length, take, refl, sym, ap, ◌∙◌, arith, Option, Some, None, eqb-true, eq-eqb}
use Rattle.std.specs.Prelude.{min}
use Rattle.std.specs.List.{Contains, position_from}
use Rattle.std.specs.Option.{option_map_or}
use Rattle.std.proofs.lemmas.Bool.{cases_Bool}
use Rattle.std.proofs.lemmas.Bool.{cases_lt}
use Rattle.store_trace.proofs.Members.{contains_first, contains_later, from_some, no_members}
use Rattle.store_trace.specs.Marks.{ended, ended_by}
use Rattle.routine_judge.proofs.Marked.{no_number, number_of}
use Rattle.routine_judge.specs.Spans.{until}
use Rattle.routine_judge.specs.Windows.{end_moment, first_end, is_end_of}
use Rattle.store_trace.specs.declared.event.Event.{Event}
use Rattle.store_trace.specs.declared.event.Event.TheVariants.{Store, Clean, Fence, Begin, End}

pub end_test : (event : Event) (op : ℕ) → ended_by event ≡ Some op → is_end_of op event ≡ true
end_test (Store hart line offset width value) op e = absurd cc
end_test (Clean hart line) op e = absurd cc
end_test (Fence hart) op e = absurd cc
end_test (Begin hart other) op e = absurd cc
end_test (End hart other) op e = eq-eqb other op (number_of other op e)

test_end : (event : Event) (op : ℕ) → is_end_of op event ≡ true → ended_by event ≡ Some op
test_end (Store hart line offset width value) op e = absurd cc
test_end (Clean hart line) op e = absurd cc
test_end (Fence hart) op e = absurd cc
test_end (Begin hart other) op e = absurd cc
test_end (End hart other) op e = ap (λ (o : ℕ). Some o) (eqb-true other op e)

abbrev first_from : ℕ → ℕ → List Event → Option ℕ
first_from n op events = position_from (is_end_of op) n events

ended_first : (event : Event) (events : List Event) (op : ℕ) → ended_by event ≡ Some op → Contains (ended (event ∷ events)) op
ended_first event events op e = rw e (contains_first op (ended events) op refl)

ended_rest : (event : Event) (events : List Event) (op : ℕ) → Contains (ended events) op → Contains (ended (event ∷ events)) op
ended_rest event events op c = in_rest (ended_by event) (ended events) op c where
  in_rest : (o : Option ℕ) (ops : List ℕ) (op : ℕ) → Contains ops op → Contains (Rattle.std.specs.List.cons_option o ops) op
  in_rest None ops op c = c
  in_rest (Some other) ops op c = contains_later other ops op c

-- where it is, of the events up to m
found : (events : List Event) (n m op : ℕ) → Contains (ended (take m events)) op → (j : ℕ) × (first_from n op events ≡ Some j) × (j < n + m)
found [] n zero op c = absurd (no_members op c)
found [] n (suc m) op c = absurd (no_members op c)
found (event ∷ events) n zero op c = absurd (no_members op c)
found (event ∷ events) n (suc m) op c = elim (cases_Bool (is_end_of op event)) [
  | inl is ↦ (n, rw is refl, omega arith)
  | inr isnt ↦ elim (from_some (ended_by event) (ended (take m events)) op c) [
    | inl here ↦ absurd (let both : true ≡ false = sym (end_test event op here) ∙ isnt in cc)
    | inr later ↦
        let rest = found events (n + 1) m op later in
        (rest.0, rw isnt rest.1, omega (arith, rest.2))
  ]
]

not_below : (events : List Event) (n op j : ℕ) → first_from n op events ≡ Some j → n ≤ j
not_below [] n op j e = absurd (no_number j e)
not_below (event ∷ events) n op j e = elim (cases_Bool (is_end_of op event)) [
  | inl is ↦ let same = rw is at e in omega (arith, number_of n j same)
  | inr isnt ↦ let later = rw isnt at e in omega (arith, not_below events (n + 1) op j later)
]

within : (events : List Event) (n op j : ℕ) → first_from n op events ≡ Some j → j < n + length events
within [] n op j e = absurd (no_number j e)
within (event ∷ events) n op j e = elim (cases_Bool (is_end_of op event)) [
  | inl is ↦ let same = rw is at e in omega (arith, number_of n j same)
  | inr isnt ↦ let later = rw isnt at e in omega (arith, within events (n + 1) op j later)
]

pub first_within : (events : List Event) (op j : ℕ) → first_end events op ≡ Some j → j < length events
first_within events op j e = omega (arith, within events 0 op j e)

is_ended : (events : List Event) (n m op j : ℕ) → first_from n op events ≡ Some j → j < n + m → Contains (ended (take m events)) op
is_ended [] n m op j e low = absurd (no_number j e)
is_ended (event ∷ events) n zero op j e low = absurd (omega (arith, low, not_below (event ∷ events) n op j e))
is_ended (event ∷ events) n (suc m) op j e low = elim (cases_Bool (is_end_of op event)) [
  | inl is ↦ ended_first event (take m events) op (test_end event op is)
  | inr isnt ↦ let later = rw isnt at e in ended_rest event (take m events) op (is_ended events (n + 1) m op j later (omega (arith, low)))
]

-- what has ended has ended later too
pub still_ended : (events : List Event) (m n op : ℕ) → m ≤ n → Contains (ended (take m events)) op → Contains (ended (take n events)) op
still_ended events m n op later c =
    let at = found events 0 m op c in
    is_ended events 0 n op at.0 at.1 (omega (arith, later, at.2))

some_or_none : (o : Option ℕ) → (o ≡ None) ⊎ ((j : ℕ) × (o ≡ Some j))
some_or_none None = inl refl
some_or_none (Some j) = inr (j, refl)

until_none : (events : List Event) (op : ℕ) → first_end events op ≡ None → until events op ≡ length events + 1
until_none events op e = ap (λ (o : Option ℕ). option_map_or (λ at. at + 1) o (length events + 1)) e

until_some : (events : List Event) (op j : ℕ) → first_end events op ≡ Some j → until events op ≡ j + 1
until_some events op j e = ap (λ (o : Option ℕ). option_map_or (λ at. at + 1) o (length events + 1)) e

end_none : (events : List Event) (op : ℕ) → first_end events op ≡ None → end_moment events op ≡ length events
end_none events op e = ap (λ (o : Option ℕ). option_map_or (λ at. at + 1) o (length events)) e

end_some : (events : List Event) (op j : ℕ) → first_end events op ≡ Some j → end_moment events op ≡ j + 1
end_some events op j e = ap (λ (o : Option ℕ). option_map_or (λ at. at + 1) o (length events)) e

-- it hasn't ended exactly before that moment
pub above_unended : (events : List Event) (m op : ℕ) → m < until events op → ¬ Contains (ended (take m events)) op
above_unended events m op high c =
    let at = found events 0 m op c in
    omega (arith, high, until_some events op at.0 at.1, at.2)

pub unended_above : (events : List Event) (m op : ℕ) → m ≤ length events → ¬ Contains (ended (take m events)) op → m < until events op
unended_above events m op there unended = elim (some_or_none (first_end events op)) [
  | inl none ↦ omega (arith, there, until_none events op none)
  | inr some ↦ elim (cases_lt some.0 m) [
    | inl low ↦ absurd (unended (is_ended events 0 m op some.0 some.1 (omega (arith, low))))
    | inr high ↦ omega (arith, high, until_some events op some.0 some.1)
  ]
]

pub end_of_until : (events : List Event) (op : ℕ) → min (until events op) (length events) ≡ end_moment events op
end_of_until events op = elim (some_or_none (first_end events op)) [
  | inl none ↦ omega (arith, until_none events op none, end_none events op none)
  | inr some ↦ omega (arith, until_some events op some.0 some.1, end_some events op some.0 some.1, within events 0 op some.0 some.1)
]

pub until_positive : (events : List Event) (op : ℕ) → 0 < until events op
until_positive events op = elim (some_or_none (first_end events op)) [
  | inl none ↦ omega (arith, until_none events op none)
  | inr some ↦ omega (arith, until_some events op some.0 some.1)
]

-- an operation has ended by the moment until which it is pending
pub ended_until : (events : List Event) (m op : ℕ) → m ≤ length events → until events op ≤ m → Contains (ended (take m events)) op
ended_until events m op there low = elim (some_or_none (first_end events op)) [
  | inl none ↦ absurd (omega (arith, there, low, until_none events op none))
  | inr some ↦ is_ended events 0 m op some.0 some.1 (omega (arith, low, until_some events op some.0 some.1))
]
