-- Which schedule explains a cut of a moment of a recorded run without an eviction that changes nothing.
use Rattle.std.specs.Prelude.{◌≡◌, ℕ, List, ◌∷◌, ◌++◌, Contains, take}
use Rattle.store_trace.specs.Cut.{IsCut, number_in}
use Rattle.store_trace.specs.WrittenBack.{written_back}
use Rattle.store_trace.specs.History.{at_moment}
use Rattle.program.specs.Sections.{Sections}
use Rattle.machine.specs.Steps.{all_steps}
use Rattle.machine.specs.declared.schedule.items.Step.{Step}
use Rattle.machine.specs.declared.schedule.items.Step.TheVariants.{Evict}
use Rattle.machine.specs.Persisted.{persisted}
use Rattle.machine.specs.Evicting.{hart_steps}
use Rattle.machine.specs.Recorded.{RecordedView, Records}
use Rattle.machine.specs.Run.{Config, RunsTo, started}
use Rattle.witness.specs.Explains.{Leaves, steps_by}
use Rattle.witness.specs.Needed.{needed}

-- the steps, run from c, leave the number of the cut written back of each line
pub record LeavesNumbers (c : Config) (cut : List (ℕ × ℕ)) (steps : List Step) : Type 0 where
  pub end : Config
  pub runs : RunsTo c steps end
  pub written : (l : ℕ) → written_back l (persisted end.common.history) ≡ number_in cut l

-- wherever the steps evict a line, the others evict it too
abbrev pub EvictsNoOthers : List Step → List Step → Type 0
EvictsNoOthers steps others = (before after : List Step) (line : ℕ) → steps ≡ before ++ Evict line ∷ after → Contains others (Evict line)

-- It is a cut of the moment, and the steps are the recorded hart steps through the moment's last event, with the needed
-- evictions alone, which leave the cut from whatever start the run was recorded. No steps with these hart steps leave the
-- cut without an eviction of each line that these steps evict.
pub record ExplainsLeast (recorded : RecordedView) (moment : ℕ) (cut : List (ℕ × ℕ)) (steps : List Step) : Type 0 where
  pub is_cut : IsCut (at_moment recorded.trace moment) cut
  pub hart_steps_are : hart_steps steps ≡ take (steps_by recorded.steps moment) (hart_steps (all_steps recorded.items))
  pub leaves : (program : Sections) (lines : List (List ℕ)) (harts : ℕ) → Records (started program lines harts) recorded →
      Leaves (started program lines harts) recorded moment cut (needed cut (at_moment recorded.trace moment)) steps
  pub least : (program : Sections) (lines : List (List ℕ)) (harts : ℕ) → Records (started program lines harts) recorded →
      (others : List Step) → hart_steps others ≡ hart_steps steps → LeavesNumbers (started program lines harts) cut others →
      EvictsNoOthers steps others
