-- What commands do to a machine.
use Rattle.std.specs.Prelude.{List}
use Rattle.machine.specs.declared.schedule.items.Step.{Step}
use Rattle.machine.specs.Represents.{MachineView, Runs}

-- a machine is brought to another by steps of a schedule, and by nothing else
pub record SomeRun (old new : MachineView) : Type 0 where
  pub steps : List Step
  pub runs : Runs old new steps
