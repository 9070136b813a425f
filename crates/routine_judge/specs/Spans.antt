-- How long the operations of a run are pending, in a list of numbers.
use Rattle.std.specs.Prelude.{◌≡◌, ℕ, ◌+◌, ◌<◌, ◌≤◌, List, length, map, slice_index}
use Rattle.std.specs.Option.{option_map_or}
use Rattle.store_trace.specs.Marks.{begun_by}
use Rattle.routine_judge.specs.Windows.{IsPendingOn, first_end}
use Rattle.routine_judge.specs.declared.history.moments.Windows.{Windows}
use Rattle.store_trace.specs.declared.event.Event.{Event}

-- the moment from which on the operation has ended, one past the last moment where it doesn't end
abbrev pub until : List Event → ℕ → ℕ
until events op = option_map_or (λ at. at + 1) (first_end events op) (length events + 1)

-- that of the operation that begins in this event, and 0 where none does
abbrev pub until_of : List Event → Event → ℕ
until_of events event = option_map_or (until events) (begun_by event) 0

-- n is the moment from which on each operation has ended that is pending on the hart at moment m, and 0 where none is
pub record IsFreeFrom (events : List Event) (m hart n : ℕ) : Type 0 where
  pub each : (op : ℕ) → IsPendingOn events m hart op → until events op ≤ n
  pub some : 0 < n → (op : ℕ) × IsPendingOn events m hart op × (until events op ≡ n)

-- these are the windows of the moments of these events
abbrev pub AreWindows : List Event → Windows → Type 0
AreWindows events windows = windows.until.items ≡ map (until_of events) events

-- none of the first m numbers is above m
abbrev pub NoneAbove : List ℕ → ℕ → Type 0
NoneAbove numbers m = (i : ℕ) → i < m → slice_index numbers i ≤ m

-- i is the place of the first of them that is
pub record IsFirstAbove (numbers : List ℕ) (m i : ℕ) : Type 0 where
  pub before : i < m
  pub above : m < slice_index numbers i
  pub first : (k : ℕ) → k < i → slice_index numbers k ≤ m

-- none of the first b numbers is above b, and behind place b they are 0 up to place e
pub record IsAloneIn (numbers : List ℕ) (b e : ℕ) : Type 0 where
  pub none_above : NoneAbove numbers b
  pub none_within : (i : ℕ) → b < i → i < e → slice_index numbers i ≡ 0

-- none of the first `count` numbers is above this one, which is one of them, if it isn't 0
pub record IsHighest (numbers : List ℕ) (count highest : ℕ) : Type 0 where
  pub above : (i : ℕ) → i < count → slice_index numbers i ≤ highest
  pub among : 0 < highest → (i : ℕ) × (i < count) × (slice_index numbers i ≡ highest)
