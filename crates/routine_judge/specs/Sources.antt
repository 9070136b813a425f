-- Whose full images give the right answers, as a run keeps it.
use Rattle.std.specs.Prelude.{ℕ, List, length}
use Rattle.program.specs.Sections.{Sections}
use Rattle.routine_judge.specs.Order.{AreSoundByHart}
use Rattle.routine_judge.specs.Rules.{program_with}
use Rattle.routine_judge.specs.SequentialRuns.{AreSequentialRuns, notes_in}
use Rattle.routine_judge.specs.Spans.{AreWindows}
use Rattle.routine_judge.specs.Views.{RightBy, own_moments, sequential_runs}
use Rattle.routine_judge.specs.declared.sources.Sources.{Sources}
use Rattle.routine_judge.specs.declared.sources.Sources.TheVariants.{Moments, Sequential}
use Rattle.store_trace.specs.declared.event.Event.{Event}

abbrev pub right_from : Sources → RightBy
right_from (Moments windows) = own_moments
right_from (Sequential runs) = sequential_runs runs.program.now runs.harts

-- so they are for a run from this medium with these events, by this routine, which makes so many steps on an image
abbrev pub AreSources : List (List ℕ) → Sections → ℕ → List Event → Sources → Type 0
AreSources medium routine steps events (Moments windows) = AreWindows events windows
AreSources medium routine steps events (Sequential runs) =
    AreSequentialRuns (program_with runs medium routine steps) (notes_in runs.runs.now) × AreSoundByHart events (length events)
