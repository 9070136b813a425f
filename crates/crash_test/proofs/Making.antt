-- What a machine has made that was at the start of a setup.
use Rattle.std.proofs.Common.{◌≡◌, ◌≤◌, List, All, length, inr, refl, sym, ap, ◌∙◌}
use Rattle.std.proofs.lemmas.List.FromFn.{length-map-range_with_len}
use Rattle.hart.specs.Effect.{start}
use Rattle.machine.proofs.Leaving.{left_by}
use Rattle.machine.specs.Represents.{IsThere, MachineView, Runs, RunsExactly, Represents, RepresentsExactly}
use Rattle.machine.specs.Stops.{StopsAt}
use Rattle.machine.specs.declared.fault.RunStop.{RunStop}
use Rattle.machine.proofs.Numbering.{all_among}
use Rattle.machine.specs.Steps.{all_steps}
use Rattle.machine.specs.declared.schedule.items.Item.{Item}
use Rattle.machine.specs.declared.schedule.items.Step.{Step}
use Rattle.crash_test.specs.Runs.{FailsToRun, HasMade, HasRun, IsAtStart}
use Rattle.machine.specs.RunValues.{AreThere, IsLeftOf, start_of}
use Rattle.machine.specs.declared.recording.setup.Setup.{Setup}

-- a machine at the start has as many harts as its setup says
harts_of : (s : Setup) (machine : MachineView) → Represents machine (start_of s) → length machine.harts ≡ s.harts
harts_of s machine stands = ap length stands.harts ∙ length-map-range_with_len start 0 s.harts

-- what is there for a machine at the start is there for its setup
pub are_there : (s : Setup) (machine : MachineView) (steps : List Step) → Represents machine (start_of s)
    → length machine.shared.cache.lines ≡ length s.medium → All (IsThere machine) steps → AreThere s steps
are_there s machine steps stands lines there =
    all_among machine s.harts (length s.medium) steps (sym (harts_of s machine stands)) (sym lines) there

has_made : (s : Setup) (steps : List Step) (old new : MachineView) → IsAtStart s old → Runs old new steps
    → length new.shared.trace ≤ 65536 → HasMade s steps new
has_made s steps old new at runs few =
    let made = runs.represents (start_of s) at.represents in
    record {
      within = at.within;
      there = are_there s old steps at.represents (ap length at.lines) runs.there;
      end = made.0;
      run = made.1;
      represents = made.2;
      lines = runs.lines ∙ ap length at.lines;
      few = few;
    }

pub has_run : (s : Setup) (schedule : List Item) (old new : MachineView) → IsAtStart s old → Runs old new (all_steps schedule)
    → length new.shared.trace ≤ 65536 → HasRun s schedule new
has_run s schedule old new at runs few =
    record { has_made = has_made s (all_steps schedule) old new at runs few; capacity = runs.capacity ∙ at.capacity }

pub left_of : (s : Setup) (schedule : List Item) (old new : MachineView) → IsAtStart s old → RepresentsExactly old (start_of s)
    → Runs old new (all_steps schedule) → RunsExactly old new (all_steps schedule) → IsLeftOf s schedule new.shared.cache.lines
left_of s schedule old new at stands runs exact =
    left_by (start_of s) (all_steps schedule) old new s.capacity new.shared.cache.lines stands exact (runs.capacity ∙ at.capacity) refl

pub stops_at : (s : Setup) (schedule : List Item) (old new : MachineView) (stop : RunStop) → IsAtStart s old
    → StopsAt old new schedule stop → length new.shared.trace ≤ 65536 → FailsToRun s schedule stop.fault
stops_at s schedule old new stop at stops few = inr (inr (record {
  machine = new;
  item = stop.place.item;
  steps = stop.place.steps;
  has_made = has_made s _ old new at stops.runs few;
  refused = stops.refused;
}))
