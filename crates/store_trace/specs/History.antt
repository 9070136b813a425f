-- A trace as a list of persistence steps, for which stores, floors, cuts and images are defined.
use Rattle.std.specs.Prelude.{ℕ, List, [], ◌∷◌, reverse, take}
use Rattle.std.specs.List.{flat_map}
use Rattle.store_trace.specs.declared.crash_model.step.PersistenceStep.{PersistenceStep}
use Rattle.store_trace.specs.declared.crash_model.step.PersistenceStep.TheVariants as step
use Rattle.store_trace.specs.declared.event.Event.{Event}
use Rattle.store_trace.specs.declared.event.Event.TheVariants.{Store, Clean, Fence, Begin, End}

-- what an event does to persistent memory: the mark of an operation does nothing
abbrev pub steps_of : Event → List PersistenceStep
steps_of (Store hart line offset width value) = step.Store line offset width value ∷ []
steps_of (Clean hart line) = step.Clean hart line ∷ []
steps_of (Fence hart) = step.Fence hart ∷ []
steps_of (Begin hart op) = []
steps_of (End hart op) = []

-- the persistence steps of a trace, the newest first
abbrev pub history : List Event → List PersistenceStep
history events = flat_map steps_of (reverse events)

-- the persistence steps of moment m: those of the first m events
abbrev pub at_moment : List Event → ℕ → List PersistenceStep
at_moment events m = history (take m events)
