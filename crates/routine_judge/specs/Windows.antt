-- Which full images give the right answers of a moment, by the operations that are pending then.
use Rattle.std.specs.Prelude.{◌≡◌, ℕ, ◌+◌, ◌<◌, ◌≤◌, ◌==◌, Bool, false, List, length, Option, Some, slice_get, take}
use Rattle.std.specs.List.{Contains, position_from}
use Rattle.std.specs.Option.{option_map_or}
use Rattle.store_trace.specs.Marks.{ended}
use Rattle.routine_judge.specs.declared.history.moments.Window.{Window}
use Rattle.routine_judge.specs.declared.history.moments.Window.TheVariants.{Itself, Either, Through}
use Rattle.store_trace.specs.declared.event.Event.{Event}
use Rattle.store_trace.specs.declared.event.Event.TheVariants.{Store, Clean, Fence, Begin, End}

-- the event ends the operation
abbrev pub is_end_of : ℕ → Event → Bool
is_end_of op (Store hart line offset width value) = false
is_end_of op (Clean hart line) = false
is_end_of op (Fence hart) = false
is_end_of op (Begin hart other) = false
is_end_of op (End hart other) = other == op

-- the first event, from 0, that ends the operation
abbrev pub first_end : List Event → ℕ → Option ℕ
first_end events op = position_from (is_end_of op) 0 events

-- the moment right after the operation's End, and the last one where it doesn't end
abbrev pub end_moment : List Event → ℕ → ℕ
end_moment events op = option_map_or (λ at. at + 1) (first_end events op) (length events)

-- the operation begins right after moment i
abbrev pub IsBegunAt : List Event → ℕ → ℕ → Type 0
IsBegunAt events i op = (hart : ℕ) × (slice_get events i ≡ Some (Begin hart op))

-- the operation, which begins right after moment i, is pending at moment m
pub record IsPendingFrom (events : List Event) (m i op : ℕ) : Type 0 where
  pub begins : IsBegunAt events i op
  pub before : i < m
  pub pending : ¬ Contains (ended (take m events)) op

-- the operation is pending at moment m, and this hart began it
pub record IsPendingOn (events : List Event) (m hart op : ℕ) : Type 0 where
  pub at : ℕ
  pub begins : slice_get events at ≡ Some (Begin hart op)
  pub pending : IsPendingFrom events m at op

-- an operation from moment b to moment e overlaps no other: none is pending at its Begin, and none begins before its End
pub record OverlapsNone (events : List Event) (b e : ℕ) : Type 0 where
  pub none_pending : (i op : ℕ) → ¬ IsPendingFrom events b i op
  pub none_begins : (i op : ℕ) → b < i → i < e → ¬ IsBegunAt events i op

-- an operation is pending at moment m that begins right after moment b, ends right before moment e, and overlaps no other; so no
-- other one is pending
pub record IsAlonePending (events : List Event) (m b e : ℕ) : Type 0 where
  pub op : ℕ
  pub pending : IsPendingFrom events m b op
  pub ends : e ≡ end_moment events op
  pub alone : OverlapsNone events b e

-- b is the moment right before the first Begin of the operations that are pending at moment m
pub record IsFirstBegin (events : List Event) (m b : ℕ) : Type 0 where
  pub op : ℕ
  pub pending : IsPendingFrom events m b op
  pub first : (i other : ℕ) → IsPendingFrom events m i other → b ≤ i

-- e is the moment right after the last End of the operations that are pending at moment m
pub record IsLastEnd (events : List Event) (m e : ℕ) : Type 0 where
  pub i : ℕ
  pub op : ℕ
  pub pending : IsPendingFrom events m i op
  pub ends : e ≡ end_moment events op
  pub last : (j other : ℕ) → IsPendingFrom events m j other → end_moment events other ≤ e

-- these are the moments whose full images give the right answers of moment m
abbrev pub IsWindow : List Event → ℕ → Window → Type 0
IsWindow events m Itself = (i op : ℕ) → ¬ IsPendingFrom events m i op
IsWindow events m (Either before after) = IsAlonePending events m before after
IsWindow events m (Through first last) =
    IsFirstBegin events m first × IsLastEnd events m last × ((b e : ℕ) → ¬ IsAlonePending events m b e)
