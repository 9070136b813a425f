-- What a machine has come to by the steps of a schedule, and how it goes on.
use Rattle.machine.specs.Represents.{Represents}
use Rattle.machine.specs.Run.{Config, RunsTo}
use Rattle.machine.specs.RunValues.{start_of}
use Rattle.machine.specs.Steps.{all_steps}
use Rattle.machine.specs.declared.recording.setup.Setup.{Setup}
use Rattle.every_schedule.specs.declared.follower.Follower.{Follower}

-- from the start of the setup the schedule of the steps made leads here, and the machine represents it
pub record HasCome (s : Setup) (f : Follower) (c : Config) : Type 0 where
  pub runs : RunsTo (start_of s) (all_steps f.schedule) c
  pub represents : Represents f.machine c

-- from what was come to one goes on in this way
abbrev pub Follows : (Config → Config → Type 0) → Follower → Follower → Type 0
Follows goes old new = (s : Setup) (c : Config) → HasCome s old c → (d : Config) × goes c d × HasCome s new d
