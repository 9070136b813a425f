use Rattle.machine.proofs.Kept.{events_told}
use Rattle.machine.proofs.recording.run.Run.traced.Goals as goal

pub returns-clause-events : goal.returns-clause-events
returns-clause-events c = rw (← c.self.view_is) (events_told _ c.self.invariant.0)
