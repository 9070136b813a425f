-- A tracer: a machine that makes the steps of a schedule, and where it has made their events so far.
use Rattle.std.specs.Prelude.{◌≡◌, ◌⊎◌, ◌<◌, ◌^◌, ℕ, List, [], ◌∷◌, ◌++◌, Some}
use Rattle.machine.specs.Refusals.{IsRefused}
use Rattle.machine.specs.Run.{Config}
use Rattle.machine.specs.Represents.{MachineView, Runs, RunsExactly, Represents}
use Rattle.machine.specs.Traced.{TakesMemory, TracedRun, passed, places_in}
use Rattle.machine.specs.declared.run_trace.traced_event.EventPlace.{EventPlace}
use Rattle.machine.specs.declared.run_trace.traced_event.TracedEvent.{TracedEvent}
use Rattle.machine.specs.declared.schedule.items.Step.{Step}
use Rattle.machine.specs.declared.shared_memory.fault.StepFault.{StepFault}
use Rattle.machine.specs.declared.shared_memory.fault.StepFault.TheVariants.{Memory}

-- what a contract sees of it: the machine, how many hart steps it has made, and the places of the events
pub record TracerView : Type 0 where
  pub machine : MachineView
  pub made : ℕ
  pub places : List EventPlace

-- the number of hart steps after these
abbrev pub passed_all : ℕ → List Step → ℕ
passed_all n [] = n
passed_all n (step ∷ steps) = passed_all (passed n step) steps

-- from c, which the old one's machine represents, the steps make these events, whose places the new one has after the old one's
pub record Tells (old new : TracerView) (steps : List Step) (c : Config) : Type 0 where
  pub end : Config
  pub more : List TracedEvent
  pub run : TracedRun old.made c steps end more
  pub represents : Represents new.machine end
  pub places : new.places ≡ old.places ++ places_in more

-- it has gone on by these steps
pub record Continues (old new : TracerView) (steps : List Step) : Type 0 where
  pub runs : Runs old.machine new.machine steps
  pub exact : RunsExactly old.machine new.machine steps
  pub made : new.made ≡ passed_all old.made steps
  pub tells : (c : Config) → Represents old.machine c → Tells old new steps c

-- the same of steps that can be counted
abbrev pub Makes : TracerView → List Step → TracerView → Type 0
Makes old steps new = passed_all old.made steps < 2 ^ 32 → Continues old new steps

-- it goes no further: memory was refused for the step, or the machine, which is as it was, refuses it
abbrev pub IsHeld : TracerView → Step → TracerView → StepFault → Type 0
IsHeld old step new fault = ((fault ≡ Memory) × TakesMemory old.machine (Some step)) ⊎ IsRefused old.machine step new.machine fault
