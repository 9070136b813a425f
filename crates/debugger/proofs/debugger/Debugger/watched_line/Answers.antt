use Rattle.std.proofs.Common.{◌≡◌, false, slice_get}
use Rattle.machine.specs.Represents.{copy_of}
use Rattle.debugger.specs.Points.{has_watch}
use Rattle.debugger.proofs.Watching.{unwatched_line}
use Rattle.debugger.proofs.debugger.Debugger.watched_line.Goals as goal

pub returns-else-has_watch : goal.returns-else-has_watch
returns-else-has_watch c =
    let off : has_watch c.args.self.now.points c.in-Some.line ≡ false = cc in
    unwatched_line c.args.self.now.points (slice_get c.args.self.now.machine.harts c.args.hart) (copy_of c.args.self.now.machine c.args.hart)
    c.in-Some.line c.in-Some.ensures.1 off

pub returns-in-None : goal.returns-in-None
returns-in-None c = λ line a on. c.in-None.ensures line a
