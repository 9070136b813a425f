-- A run in which only harts that run make steps, and only lines that were stored are evicted.
use Rattle.std.specs.Prelude.{◌≡◌, ◌⊎◌, ◌==◌, ℕ, ◌+◌, ◌≤◌, List, [], ◌∷◌, ◌++◌, Contains, Option, Some, None, filter, if◌then◌else◌, length, not, slice_get}
use Rattle.std.specs.List.{filter_map, fold, list_any, range_with_len}
use Rattle.hart.specs.declared.state.HartState.{HartState}
use Rattle.machine.specs.Replies.{trace_in}
use Rattle.machine.specs.Run.{Config, StepsTo}
use Rattle.machine.specs.Represents.{IsRunning}
use Rattle.machine.specs.Stops.{is_stopped}
use Rattle.machine.specs.Grammar.{hart_steps}
use Rattle.machine.specs.Steps.{all_steps}
use Rattle.machine.specs.declared.schedule.items.Item.{Item}
use Rattle.machine.specs.declared.schedule.items.Step.{Step}
use Rattle.machine.specs.declared.schedule.items.Step.TheVariants.{Hart, Evict}
use Rattle.store_trace.specs.declared.event.Event.{Event}
use Rattle.store_trace.specs.declared.event.Event.TheVariants.{Store}

-- the line that an event stores to
abbrev pub line_stored : Event → Option ℕ
line_stored (Store hart line offset width value) = Some line
line_stored event = None

-- lines, each of them once, and one more, unless it is among them
abbrev pub with_line : List ℕ → ℕ → List ℕ
with_line lines line = if list_any (λ other. other == line) lines then lines else lines ++ line ∷ []

-- the lines that events store to, each once, in the order of their first stores
abbrev pub stored_lines : List Event → List ℕ
stored_lines events = fold with_line [] (filter_map line_stored events)

-- the harts that run, by their numbers, upwards
abbrev pub running : List HartState → List ℕ
running harts = filter (λ h. not (is_stopped (slice_get harts h))) (range_with_len 0 (length harts))

-- the step may be made: its hart runs, or its line was stored before
abbrev pub MayStep : Config → Step → Type 0
MayStep c (Hart h) = IsRunning (slice_get c.harts h)
MayStep c (Evict line) = Contains (stored_lines (trace_in c.common)) line

-- the run from c by these steps to the end, each of which may be made where it is made
abbrev pub Interleaves : Config → List Step → Config → Type 0
Interleaves c [] end = end ≡ c
Interleaves c (step ∷ steps) end = (d : Config) × MayStep c step × StepsTo c step d × Interleaves d steps end

-- the schedule of a whole run from c of at most `limit` hart steps, with so many evictions where a line is stored
pub record IsWhole (c : Config) (limit count : ℕ) (items : List Item) : Type 0 where
  pub end : Config
  pub runs : Interleaves c (all_steps items) end
  pub within : hart_steps items ≤ limit
  pub whole : (running end.harts ≡ []) ⊎ (hart_steps items ≡ limit)
  pub evictions : length (all_steps items)
      ≡ hart_steps items + (if length (stored_lines (trace_in end.common)) == 0 then 0 else count)
