-- Which operations have ended after some events, and which are pending.
-- Source: Vinter, USENIX ATC 2022: a state is judged by the operations that were done or under way.
use Rattle.std.specs.Prelude.{ℕ, ◌==◌, Bool, not, List, filter, Option, Some, None}
use Rattle.std.specs.List.{filter_map, list_any}
use Rattle.store_trace.specs.declared.event.Event.{Event}
use Rattle.store_trace.specs.declared.event.Event.TheVariants.{Store, Clean, Fence, Begin, End}

-- the operation that begins in this event
abbrev pub begun_by : Event → Option ℕ
begun_by (Store hart line offset width value) = None
begun_by (Clean hart line) = None
begun_by (Fence hart) = None
begun_by (Begin hart op) = Some op
begun_by (End hart op) = None

-- the operation that ends in this event
abbrev pub ended_by : Event → Option ℕ
ended_by (Store hart line offset width value) = None
ended_by (Clean hart line) = None
ended_by (Fence hart) = None
ended_by (Begin hart op) = None
ended_by (End hart op) = Some op

-- the operations that begin in these events, in the order of their Begins
abbrev pub begun : List Event → List ℕ
begun events = filter_map begun_by events

-- the operations that end in these events, in the order of their Ends
abbrev pub ended : List Event → List ℕ
ended events = filter_map ended_by events

-- the operation ends in none of these events
abbrev pub is_open : List Event → ℕ → Bool
is_open events op = not (list_any (λ other. other == op) (ended events))

-- the pending operations, those that begin and don't end, in the order of their Begins
abbrev pub pending : List Event → List ℕ
pending events = filter (is_open events) (begun events)
