-- The last store among the first events.
use Rattle.std.specs.Prelude.{◌≡◌, ℕ, ◌+◌, ◌≤◌, ◌⊎◌, List, length, slice_index_or}
use Rattle.store_trace.specs.declared.event.Event.{Event}
use Rattle.durability.specs.Numbered.{IsStore}

-- event n is a store
pub record IsAnyStore (events : List Event) (n : ℕ) : Type 0 where
  pub hart : ℕ
  pub line : ℕ
  pub store : IsStore events hart line n

-- of the first n events this is the last store, and 0 where none is a store
pub record IsLastStore (events : List Event) (n store : ℕ) : Type 0 where
  pub own : (store ≡ 0) ⊎ IsAnyStore events store
  pub among : store ≤ n
  pub last : (e : ℕ) → IsAnyStore events e → e ≤ n → e ≤ store

-- for each number of first events up to m, from 0 on, the last store among them
pub record AreLastStores (events : List Event) (m : ℕ) (stores : List ℕ) : Type 0 where
  pub size : length stores ≡ m + 1
  pub each : (n d : ℕ) → n ≤ m → IsLastStore events n (slice_index_or stores n d)
