-- Runs of several steps.
use Rattle.std.proofs.Common.{◌≡◌, ℕ, zero, suc, ◌<◌, List, length, replicate, Option, Some, None, true, slice_get, refl, inl, inr}
use Rattle.std.proofs.lemmas.Bool.{cases_lt}
use Rattle.std.proofs.lemmas.List.Elements.{All-replicate}
use Rattle.std.proofs.lemmas.Option.{slice_get_past}
use Rattle.hart.specs.declared.state.HartState.{HartState}
use Rattle.hart.specs.declared.state.Status.{Status}
use Rattle.hart.specs.declared.state.Status.TheVariants.{Running, Exited, Trapped}
use Rattle.machine.proofs.Places.{step_there}
use Rattle.machine.specs.Walks.{HaltsAt}
use Rattle.machine.specs.declared.schedule.place.Place.{Place}
use Rattle.machine.specs.declared.schedule.items.Item.{Item}
use Rattle.machine.specs.declared.schedule.items.Step.{Step}
use Rattle.machine.specs.declared.schedule.items.Step.TheVariants.{Hart}
use Rattle.machine.specs.Run.{Config, HartSteps, HartStepsIfThere, RunsTo}
use Rattle.machine.specs.Represents.{IsThere, MachineView, Runs, RunsBoth, RunsExactly}
use Rattle.machine.specs.Stops.{StopsAt, has_stopped, is_stopped}
use Rattle.machine.specs.Refusals.{IsRefused}
use Rattle.machine.specs.Places.{steps_before}
pub use Rattle.machine.specs.RunLaws.{runs_more, runs_none}
use Rattle.machine.specs.declared.shared_memory.fault.StepFault.{StepFault}

-- a hart that stopped makes no step
rests : (c : Config) (h : ℕ) (s : HartState) (status : Status) → has_stopped status ≡ true → HartSteps c h s status c
rests c h s Running e = cc
rests c h s (Exited code) e = refl
rests c h s (Trapped trap) e = refl

rests_if_there : (c : Config) (h : ℕ) (o : Option HartState) → is_stopped o ≡ true → HartStepsIfThere c h o c
rests_if_there c h None e = cc
rests_if_there c h (Some s) e = rests c h s s.status e

all_rest : (c : Config) (h n : ℕ) → is_stopped (slice_get c.harts h) ≡ true → RunsTo c (replicate n (Hart h)) c
all_rest c h zero e = refl
all_rest c h (suc n) e = (c, rests_if_there c h (slice_get c.harts h) e, all_rest c h n e)

stopped_is_there : (harts : List HartState) (h : ℕ) → is_stopped (slice_get harts h) ≡ true → h < length harts
stopped_is_there harts h e = elim (cases_lt h (length harts)) [
  | inl inside ↦ inside
  | inr past ↦ let none = rw (slice_get_past harts h past) at e in absurd (cc)
]

pub stopped_runs : (m : MachineView) (h n : ℕ) → is_stopped (slice_get m.harts h) ≡ true → Runs m m (replicate n (Hart h))
stopped_runs m h n e = record {
  there = All-replicate (IsThere m) n (Hart h) (stopped_is_there m.harts h e);
  harts = refl;
  lines = refl;
  capacity = refl;
  represents = λ c s. (c, all_rest c h n (rw (← s.harts) e), s);
}

pub stopped_exactly : (m : MachineView) (h n : ℕ) → is_stopped (slice_get m.harts h) ≡ true → RunsExactly m m (replicate n (Hart h))
stopped_exactly m h n e = record { represents = λ c s. (c, all_rest c h n (rw (← s.represents.harts) e), s) }

pub stopped_both : (m : MachineView) (h n : ℕ) → is_stopped (slice_get m.harts h) ≡ true → RunsBoth m m (replicate n (Hart h))
stopped_both m h n e = record { runs = stopped_runs m h n e; exact = stopped_exactly m h n e }

-- a walk that halts stops the run there
pub stops_at : (old new : MachineView) (items : List Item) (place : Place) (fault : StepFault)
    → HaltsAt (λ (m : MachineView) (steps : List Step) (n : MachineView). Runs m n steps) IsRefused old new items (record { item = 0; steps = 0 }) place fault
    → StopsAt old new items (record { place = place; fault = fault })
stops_at old new items place fault halts =
    let there = step_there items place halts.step halts.here in
    record {
      item = there.0;
      steps = there.1;
      runs = rw (halts.halted.0, halts.before.leads.before) halts.before.made;
      refused = rw (halts.here, halts.halted.0) halts.halted.1;
    }

pub both_stop_at : (old new : MachineView) (items : List Item) (place : Place) (fault : StepFault)
    → HaltsAt (λ (m : MachineView) (steps : List Step) (n : MachineView). RunsBoth m n steps) IsRefused old new items (record { item = 0; steps = 0 }) place fault
    → StopsAt old new items (record { place = place; fault = fault })
both_stop_at old new items place fault halts = stops_at old new items place fault (record {
  middle = halts.middle;
  step = halts.step;
  before = record { steps = halts.before.steps; leads = halts.before.leads; made = halts.before.made.runs };
  here = halts.here;
  halted = halts.halted;
})

pub exact_up_to : (old new : MachineView) (items : List Item) (place : Place) (fault : StepFault)
    → HaltsAt (λ (m : MachineView) (steps : List Step) (n : MachineView). RunsBoth m n steps) IsRefused old new items (record { item = 0; steps = 0 }) place fault
    → RunsExactly old new (steps_before items place.item place.steps)
exact_up_to old new items place fault halts = rw (halts.halted.0, halts.before.leads.before) halts.before.made.exact
