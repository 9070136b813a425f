use Rattle.debugger.proofs.Watching.{unwatched_hart}
use Rattle.debugger.proofs.debugger.Debugger.watch_on.Goals as goal

pub returns-in-None : goal.returns-in-None
returns-in-None c =
    unwatched_hart c.args.self.now.points c.args.self.now.machine c.args.step c.in-Hart.hart c.in-Hart.is c.in-None.ensures
