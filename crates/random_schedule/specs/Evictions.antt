-- How evictions are drawn.
use Rattle.std.specs.Prelude.{◌≡◌, ℕ, ◌+◌, ◌-◌, List, [], ◌∷◌, Some, filter, length, map, nat_le, slice_get}
use Rattle.random_schedule.specs.SplitMix.{below, next_state}
use Rattle.random_schedule.specs.declared.evictions.Eviction.{Eviction}
use Rattle.random_schedule.specs.declared.evictions.FirstStore.{FirstStore}

-- the lines stored by a hart step, in the order of their first stores
abbrev pub stored_by : ℕ → List FirstStore → List ℕ
stored_by step stores = map (λ store. store.line) (filter (λ store. nat_le store.step step) stores)

-- the first of the stores is made by this hart step
abbrev pub BeginsAt : List FirstStore → ℕ → Type 0
BeginsAt [] first = ⊥
BeginsAt (store ∷ stores) first = store.step ≡ first

-- of a run of so many hart steps, whose first store is made by step `first`, an eviction that is drawn from this state of
-- the generator: first its step, and then its line, by its number among those stored by then
pub record Draws (stores : List FirstStore) (first steps state : ℕ) (eviction : Eviction) : Type 0 where
  pub step : eviction.step ≡ first + below (steps - first + 1) state
  pub line : slice_get (stored_by eviction.step stores) (below (length (stored_by eviction.step stores)) (next_state state)) ≡ Some eviction.line

-- evictions that are drawn one after the other, by two numbers each, from one state of the generator to another
abbrev pub InTurn : (ℕ → Eviction → Type 0) → ℕ → List Eviction → ℕ → Type 0
InTurn IsDrawn state [] end = end ≡ state
InTurn IsDrawn state (eviction ∷ evictions) end = IsDrawn state eviction × InTurn IsDrawn (next_state (next_state state)) evictions end
