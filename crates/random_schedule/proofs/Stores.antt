-- First stores, event after event.
use Rattle.std.proofs.Common.{◌≡◌, ℕ, ◌+◌, ◌-◌, ◌<◌, ◌≤◌, Bool, true, false, List, [], ◌∷◌, ◌++◌, Option, Some, None, length, map, slice_get, refl, sym, ap, ◌∙◌, arith, leb, eqb, le-leb, append-nil, inl, inr}
use Rattle.std.proofs.lemmas.Bool.{cases_Bool, lt-leb}
use Rattle.std.proofs.lemmas.List.{length-append, map-append}
use Rattle.std.proofs.lemmas.List.Elements.{All-push, All-weaker, filter-append, filter_map-append}
use Rattle.std.proofs.lemmas.List.Sorted.{IsNonDecreasingBy-push}
use Rattle.std.proofs.lemmas.Grind.{fold-append}
use Rattle.std.proofs.lemmas.Option.{slice_get_past}
use Rattle.std.specs.Prelude.{All, filter, option_to_list, ◌||◌}
use Rattle.std.specs.List.{cons_option, filter_map, fold, list_any}
use Rattle.std.specs.List.Sorted.{IsNonDecreasingBy}
use Rattle.random_schedule.specs.Evictions.{stored_by}
use Rattle.random_schedule.specs.Interleaves.{line_stored, stored_lines, with_line}
use Rattle.random_schedule.specs.Making.{line_at, with_store}
use Rattle.random_schedule.specs.declared.evictions.FirstStore.{FirstStore}
use Rattle.random_schedule.proofs.Filters.{filter_all}
use Rattle.store_trace.specs.declared.event.Event.{Event}

abbrev pub line_in : FirstStore → ℕ
line_in store = store.line

-- a line among first stores
any_line : (stores : List FirstStore) (line : ℕ)
    → list_any (λ (other : ℕ). eqb other line) (map line_in stores) ≡ list_any (λ (store : FirstStore). eqb store.line line) stores
any_line [] line = refl
any_line (store ∷ stores) line = ap (λ (b : Bool). eqb store.line line || b) (any_line stores line)

-- the lines of first stores and of one more
lines_more : (step : ℕ) (stores : List FirstStore) (line : Option ℕ)
    → map line_in (with_store step stores line) ≡ fold with_line (map line_in stores) (option_to_list line)
lines_more step stores None = refl
lines_more step stores (Some line) =
    let same = any_line stores line in
    elim (cases_Bool (list_any (λ (store : FirstStore). eqb store.line line) stores)) [
      | inl known ↦ rw (same, known) refl
      | inr new ↦ rw (same, new) (map-append line_in stores (record { step = step; line = line } ∷ []))
    ]

-- those by a step are as they were before a later store
early_same : (k step : ℕ) (stores : List FirstStore) (line : Option ℕ) → k < step → stored_by k (with_store step stores line) ≡ stored_by k stores
early_same k step stores None later = refl
early_same k step stores (Some line) later =
    elim (cases_Bool (list_any (λ (store : FirstStore). eqb store.line line) stores)) [
      | inl known ↦ rw known refl
      | inr new ↦
          let past : leb step k ≡ false = lt-leb step k later in
          let p : FirstStore → Bool = λ store. leb store.step k in
          let one : filter p (record { step = step; line = line } ∷ []) ≡ [] = rw past refl in
          rw new (ap (λ (s : List FirstStore). map line_in s)
          (filter-append p stores (record { step = step; line = line } ∷ [])
          ∙ ap (λ (s : List FirstStore). filter p stores ++ s) one
          ∙ append-nil (filter p stores)))
    ]

-- all of them are by the last step
all_stored : (k : ℕ) (stores : List FirstStore) → All (λ (s : FirstStore). s.step ≤ k) stores → stored_by k stores ≡ map line_in stores
all_stored k stores within =
    ap (λ (s : List FirstStore). map line_in s)
    (filter_all (λ (s : FirstStore). leb s.step k) stores
    (All-weaker (λ (s : FirstStore). s.step ≤ k) (λ (s : FirstStore). leb s.step k ≡ true) (λ s h. le-leb s.step k h) stores within))

pub within_more : (made : ℕ) (stores : List FirstStore) (line : Option ℕ) → All (λ (s : FirstStore). s.step ≤ made) stores
    → All (λ (s : FirstStore). s.step ≤ made + 1) (with_store (made + 1) stores line)
within_more made stores None within = All-weaker (λ (s : FirstStore). s.step ≤ made) (λ (s : FirstStore). s.step ≤ made + 1) (λ s h. omega arith) stores within
within_more made stores (Some line) within =
    let before : All (λ (s : FirstStore). s.step ≤ made + 1) stores =
    All-weaker (λ (s : FirstStore). s.step ≤ made) (λ (s : FirstStore). s.step ≤ made + 1) (λ s h. omega arith) stores within in
    elim (cases_Bool (list_any (λ (store : FirstStore). eqb store.line line) stores)) [
      | inl known ↦ rw known before
      | inr new ↦ rw new (All-push (λ (s : FirstStore). s.step ≤ made + 1) stores (record { step = made + 1; line = line }) before (omega arith))
    ]

pub ascending_more : (made : ℕ) (stores : List FirstStore) (line : Option ℕ) → All (λ (s : FirstStore). s.step ≤ made) stores
    → IsNonDecreasingBy (λ (s : FirstStore). s.step) stores → IsNonDecreasingBy (λ (s : FirstStore). s.step) (with_store (made + 1) stores line)
ascending_more made stores None within rises = rises
ascending_more made stores (Some line) within rises =
    elim (cases_Bool (list_any (λ (store : FirstStore). eqb store.line line) stores)) [
      | inl known ↦ rw known rises
      | inr new ↦ rw new (IsNonDecreasingBy-push (λ (s : FirstStore). s.step) stores (record { step = made + 1; line = line }) rises
          (λ d some. let last = within (length stores - 1) d (omega arith) in omega arith))
    ]

-- what a step adds to the trace is at most the event at its place
at_end : (xs more : List Event) (x : Event) → slice_get (xs ++ x ∷ more) (length xs) ≡ Some x
at_end [] more x = refl
at_end (y ∷ xs) more x = at_end xs more x

more_is : (xs more : List Event) → length more ≤ 1 → more ≡ option_to_list (slice_get (xs ++ more) (length xs))
more_is xs [] few =
    let none : slice_get (xs ++ []) (length xs) ≡ None = slice_get_past (xs ++ []) (length xs) (omega (arith, length-append xs [])) in
    rw none refl
more_is xs (x ∷ []) few = rw (at_end xs [] x) refl
more_is xs (x ∷ y ∷ more) few = absurd (omega arith)

one_option : (o : Option ℕ) → cons_option o [] ≡ option_to_list o
one_option None = refl
one_option (Some x) = refl

stored_in : (event : Option Event) → filter_map line_stored (option_to_list event) ≡ option_to_list (line_at event)
stored_in None = refl
stored_in (Some event) = one_option (line_stored event)

-- the lines stored after a step, by the event at its place
pub lines_after : (old new more : List Event) (made : ℕ) (stores : List FirstStore) → new ≡ old ++ more → length more ≤ 1
    → stored_lines old ≡ stored_by made stores → All (λ (s : FirstStore). s.step ≤ made) stores
    → stored_lines new ≡ stored_by (made + 1) (with_store (made + 1) stores (line_at (slice_get new (length old))))
lines_after old new more made stores e few before within =
    let event : Option Event = slice_get new (length old) in
    let one : more ≡ option_to_list event = more_is old more few ∙ ap (λ (all : List Event). option_to_list (slice_get all (length old))) (sym e) in
    let lines : filter_map line_stored new ≡ filter_map line_stored old ++ option_to_list (line_at event) =
    ap (λ (all : List Event). filter_map line_stored all) e
    ∙ filter_map-append line_stored old more
    ∙ ap (λ (rest : List ℕ). filter_map line_stored old ++ rest) (ap (λ (m : List Event). filter_map line_stored m) one ∙ stored_in event) in
    ap (λ (all : List ℕ). fold with_line [] all) lines
    ∙ fold-append with_line [] (filter_map line_stored old) (option_to_list (line_at event))
    ∙ ap (λ (all : List ℕ). fold with_line all (option_to_list (line_at event))) (before ∙ all_stored made stores within)
    ∙ sym (lines_more (made + 1) stores (line_at event))
    ∙ sym (all_stored (made + 1) (with_store (made + 1) stores (line_at event)) (within_more made stores (line_at event) within))

pub lines_before : (k made : ℕ) (stores : List FirstStore) (line : Option ℕ) → k ≤ made
    → stored_by k (with_store (made + 1) stores line) ≡ stored_by k stores
lines_before k made stores line less = early_same k (made + 1) stores line (omega arith)

-- a store to a line that has one, and to one that has none
pub store_known : (step : ℕ) (stores : List FirstStore) (found : Option ℕ) (line : ℕ) → found ≡ Some line
    → list_any (λ (store : FirstStore). eqb store.line line) stores ≡ true → stores ≡ with_store step stores found
store_known step stores found line e known = rw (e, known) refl

pub store_new : (step : ℕ) (stores : List FirstStore) (found : Option ℕ) (line : ℕ) → found ≡ Some line
    → list_any (λ (store : FirstStore). eqb store.line line) stores ≡ false
    → stores ++ record { step = step; line = line } ∷ [] ≡ with_store step stores found
store_new step stores found line e new = rw (e, new) refl
