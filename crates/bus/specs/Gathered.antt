-- The steps of a history: each hart's register steps stand right before the request that they led to.
use Rattle.std.specs.Prelude.{◌≡◌, ℕ, List, [], ◌∷◌, ◌++◌, Some, length, replicate, slice_get, slice_set, slice_index_or}
use Rattle.hart.specs.declared.state.HartState.{HartState}
use Rattle.line_memory.specs.Memory.{Memory}
use Rattle.machine.specs.declared.schedule.items.Step.{Step}
use Rattle.machine.specs.declared.schedule.items.Step.TheVariants.{Hart, Evict}
use Rattle.machine.specs.declared.shared_memory.history.Entry.{Entry}
use Rattle.machine.specs.declared.shared_memory.history.Entry.TheVariants.{Asked, Evicted}
use Rattle.bus.specs.declared.exchange.Exchange.{Exchange}
use Rattle.bus.specs.Agreeing.{IsPart}

-- how many register steps led to the newest of a seat's exchanges
abbrev pub steps_to : List Exchange → ℕ
steps_to [] = 0
steps_to (x ∷ xs) = x.steps

-- those before it
abbrev pub earlier : List Exchange → List Exchange
earlier [] = []
earlier (x ∷ xs) = xs

-- the steps of a history, the oldest first, by each hart's exchanges, the newest first in history and exchanges
unfoldable pub gathered : List Entry → List (List Exchange) → List Step
gathered [] lists = []
gathered (Evicted line ∷ before) lists = gathered before lists ++ Evict line ∷ []
gathered (Asked h request reply ∷ before) lists =
    gathered before (slice_set lists h (earlier (slice_index_or lists h [])))
    ++ (replicate (steps_to (slice_index_or lists h [])) (Hart h) ++ Hart h ∷ [])

-- each list is its hart's part of the history, and leads to the hart's state in the other list
pub record AreParts (initial : Memory) (harts : ℕ) (history : List Entry) (lists : List (List Exchange)) (states : List HartState) : Type 0 where
  pub lists_of : length lists ≡ harts
  pub states_of : length states ≡ harts
  pub part : (h : ℕ) (s : HartState) → slice_get states h ≡ Some s → IsPart initial h history (slice_index_or lists h []) s
