-- Why a step is refused.
use Rattle.std.specs.Prelude.{◌≡◌, ◌<◌, ◌≤◌, Option, Some, None, length}
use Rattle.machine.specs.declared.shared_memory.fault.StepFault.{StepFault}
use Rattle.machine.specs.declared.shared_memory.fault.StepFault.TheVariants.{NoSuchHart, NoSuchLine, TraceFull, Memory, OutOfLimits}
use Rattle.machine.specs.declared.schedule.items.Step.{Step}
use Rattle.machine.specs.declared.schedule.items.Step.TheVariants.{Hart, Evict}
use Rattle.machine.specs.Outcomes.{MakesEvent}
use Rattle.machine.specs.Represents.{MachineView}

-- it is a step of a hart that isn't there
abbrev pub LacksHart : MachineView → Step → Type 0
LacksHart machine (Hart h) = length machine.harts ≤ h
LacksHart machine (Evict line) = ⊥

-- it is an eviction of a line that isn't there
abbrev pub LacksLine : MachineView → Step → Type 0
LacksLine machine (Hart h) = ⊥
LacksLine machine (Evict line) = length machine.shared.cache.lines ≤ line

-- why the machine refuses the step: its hart or its line isn't there, or its event isn't taken
abbrev pub Refuses : MachineView → Step → StepFault → Type 0
Refuses machine step NoSuchHart = LacksHart machine step
Refuses machine step NoSuchLine = LacksLine machine step
Refuses machine step TraceFull = MakesEvent machine step × (length machine.shared.trace ≡ 65536)
Refuses machine step OutOfLimits = ⊥
Refuses machine step Memory = MakesEvent machine step × (length machine.shared.trace < 65536)

abbrev pub RefusesNext : MachineView → Option Step → StepFault → Type 0
RefusesNext machine None fault = ⊥
RefusesNext machine (Some step) fault = Refuses machine step fault

-- the machine refuses the step, and is as it was
abbrev pub IsRefused : MachineView → Step → MachineView → StepFault → Type 0
IsRefused old step new fault = (new ≡ old) × Refuses old step fault
