-- What a contract sees of the crash images of a moment, and which lines a trace names.
use Rattle.std.specs.Prelude.{ℕ, List, length, All}
use Rattle.store_trace.specs.declared.crash_model.step.PersistenceStep.{PersistenceStep}
use Rattle.store_trace.specs.declared.event.Event.{Event}
pub use Rattle.store_trace.specs.TraceView.{NamesLine}

-- the lines of the starting medium, and the persistence steps of the moment, the newest first
pub record CutsView : Type 0 where
  pub start : List (List ℕ)
  pub steps : List PersistenceStep

-- the medium has every line that the events name
abbrev pub HasLines : List (List ℕ) → List Event → Type 0
HasLines medium events = All (NamesLine (length medium)) events
