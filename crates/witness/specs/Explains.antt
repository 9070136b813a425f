-- Which schedule explains a cut of a moment of a recorded run.
use Rattle.std.specs.Prelude.{◌≡◌, ℕ, zero, suc, ◌+◌, ◌<◌, ◌≤◌, List, ◌∷◌, ◌++◌, Some, length, slice_get, slice_index_or, take}
use Rattle.store_trace.specs.Cut.{IsCut, number_in}
use Rattle.store_trace.specs.Image.{image}
use Rattle.store_trace.specs.Schedule.{explained}
use Rattle.store_trace.specs.Stores.{stores}
use Rattle.store_trace.specs.WrittenBack.{written_back}
use Rattle.store_trace.specs.History.{at_moment}
use Rattle.store_trace.specs.declared.event.Event.{Event}
use Rattle.store_trace.specs.declared.event.Event.TheVariants.{Store, Clean, Fence, Begin, End}
use Rattle.program.specs.Sections.{Sections}
use Rattle.machine.specs.Steps.{all_steps}
use Rattle.machine.specs.declared.schedule.items.Step.{Step}
use Rattle.machine.specs.declared.schedule.items.Step.TheVariants.{Evict}
use Rattle.clean_fence.specs.Represents.{AreAmong}
use Rattle.machine.specs.Replies.{trace_in}
use Rattle.machine.specs.Persisted.{persisted, touched}
use Rattle.machine.specs.Evicting.{hart_steps}
use Rattle.machine.specs.Recorded.{RecordedView, Records}
use Rattle.machine.specs.Run.{Config, RunsTo, started}
use Rattle.machine.specs.Represents.{MachineView, Represents}

-- how many hart steps are made by a moment: those through the moment's last event
abbrev pub steps_by : List ℕ → ℕ → ℕ
steps_by numbers zero = 0
steps_by numbers (suc last) = slice_index_or numbers last 0

-- the event is a store of the line
abbrev pub IsStoreOf : ℕ → Event → Type 0
IsStoreOf line (Store hart m offset width value) = m ≡ line
IsStoreOf line (Clean hart m) = ⊥
IsStoreOf line (Fence hart) = ⊥
IsStoreOf line (Begin hart op) = ⊥
IsStoreOf line (End hart op) = ⊥

-- among the first events, hart step `made` makes the line's store of this number
pub record MakesStore (recorded : RecordedView) (moment line number made : ℕ) : Type 0 where
  pub index : ℕ
  pub event : Event
  pub early : index < moment
  pub there : slice_get recorded.trace index ≡ Some event
  pub store : IsStoreOf line event
  pub number_is : stores line (at_moment recorded.trace index) + 1 ≡ number
  pub made_is : slice_get recorded.steps index ≡ Some made

-- The steps, run from c, leave the cut of the moment, with evictions by k. Each eviction of a line stands right after the
-- hart step of the line's store of the number that k gives it. The run makes the recorded events up to the moment. Its
-- persistence steps are those of these events with one eviction for each line whose number by k is at least 1. What is
-- written back of each line is the cut's number; and a machine that has made the run, with room for all lines that it
-- loaded or stored, holds the cut's image.
pub record Leaves (c : Config) (recorded : RecordedView) (moment : ℕ) (cut : List (ℕ × ℕ)) (k : ℕ → ℕ) (steps : List Step) : Type 0 where
  pub evictions : (before after : List Step) (line : ℕ) → steps ≡ before ++ Evict line ∷ after →
      MakesStore recorded moment line (k line) (length (hart_steps before))
  pub end : Config
  pub runs : RunsTo c steps end
  pub trace : trace_in end.common ≡ take moment recorded.trace
  pub persisted_is : persisted end.common.history ≡ explained k (at_moment recorded.trace moment)
  pub written : (l : ℕ) → written_back l (persisted end.common.history) ≡ number_in cut l
  pub left : (machine : MachineView) (lines : List ℕ) → Represents machine end →
      length lines ≤ machine.shared.cache.cache.capacity → AreAmong (touched end.common.history) lines →
      machine.shared.cache.lines ≡ image c.common.start (number_in cut) (at_moment recorded.trace moment)

-- it is a cut of the moment, and the steps are the recorded hart steps through the moment's last event, with evictions by
-- the cut's numbers that leave the cut from whatever start the run was recorded
pub record Explains (recorded : RecordedView) (moment : ℕ) (cut : List (ℕ × ℕ)) (steps : List Step) : Type 0 where
  pub is_cut : IsCut (at_moment recorded.trace moment) cut
  pub hart_steps_are : hart_steps steps ≡ take (steps_by recorded.steps moment) (hart_steps (all_steps recorded.items))
  pub leaves : (program : Sections) (lines : List (List ℕ)) (harts : ℕ) → Records (started program lines harts) recorded →
      Leaves (started program lines harts) recorded moment cut (number_in cut) steps
