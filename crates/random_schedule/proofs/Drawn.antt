-- Evictions one after the other, and the lines stored by a step.
use Rattle.std.proofs.Common.{◌≡◌, ℕ, ◌<◌, ◌≤◌, true, false, List, [], ◌∷◌, ◌++◌, length, map, take, sym, ap, ◌∙◌, arith, leb, le-leb}
use Rattle.std.proofs.lemmas.List.{length-map}
use Rattle.std.specs.List.Sorted.{IsPartitionPoint}
use Rattle.random_schedule.specs.Evictions.{BeginsAt, InTurn, stored_by}
use Rattle.random_schedule.specs.SplitMix.{next_state}
use Rattle.random_schedule.specs.declared.evictions.Eviction.{Eviction}
use Rattle.random_schedule.specs.declared.evictions.FirstStore.{FirstStore}
use Rattle.random_schedule.proofs.Filters.{front_is}

-- one more eviction
pub one_more : (IsDrawn : ℕ → Eviction → Type 0) (state middle end : ℕ) (evictions : List Eviction) (eviction : Eviction)
    → InTurn IsDrawn state evictions middle → IsDrawn middle eviction → end ≡ next_state (next_state middle)
    → InTurn IsDrawn state (evictions ++ eviction ∷ []) end
one_more IsDrawn state middle end [] eviction a b e = (rw a at b, rw a at e)
one_more IsDrawn state middle end (first ∷ evictions) eviction a b e =
    (a.0, one_more IsDrawn (next_state (next_state state)) middle end evictions eviction a.1 b e)

-- the lines stored by a step
pub lines_are : (stores made : List FirstStore) (step count : ℕ) → count ≤ length stores → made ≡ take count stores
    → IsPartitionPoint (λ (s : FirstStore). leb s.step step ≡ true) (λ (s : FirstStore). leb s.step step ≡ false) stores count
    → map (λ (s : FirstStore). s.line) made ≡ stored_by step stores
lines_are stores made step count fits e point =
    ap (λ (front : List FirstStore). map (λ (s : FirstStore). s.line) front) (e ∙ sym (front_is (λ (s : FirstStore). s.step) stores step count fits point))

pub first_stored : (stores : List FirstStore) (first step : ℕ) → BeginsAt stores first → first ≤ step → 0 < length (stored_by step stores)
first_stored [] first step begins made = absurd begins
first_stored (store ∷ stores) first step begins made =
    let yes : leb store.step step ≡ true = le-leb store.step step (omega (arith, begins)) in
    rw yes (omega arith)

pub some_by : (stores made : List FirstStore) (first step : ℕ) → map (λ (s : FirstStore). s.line) made ≡ stored_by step stores
    → BeginsAt stores first → first ≤ step → 0 < length made
some_by stores made first step lines begins less =
    let some = first_stored stores first step begins less in
    let same : length made ≡ length (stored_by step stores) = sym (length-map made (λ (s : FirstStore). s.line)) ∙ ap (λ (l : List ℕ). length l) lines in
    omega arith
