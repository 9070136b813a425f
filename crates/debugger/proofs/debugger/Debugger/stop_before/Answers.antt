use Rattle.debugger.proofs.Watching.{unbroken_hart}
use Rattle.debugger.proofs.debugger.Debugger.stop_before.Goals as goal

pub returns-in-None : goal.returns-in-None
returns-in-None c = unbroken_hart _ _ _ c.in-Hart.hart c.in-Hart.is c.in-None.ensures
