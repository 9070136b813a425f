-- Where no line is due nothing is written.
use Rattle.std.proofs.Common.{refl}
use Rattle.command_line.specs.Progress.{states_line}
use Rattle.command_line.proofs.OnTheWay.{writes_none}
use Rattle.command_line.proofs.progress.ReporterWatcher.hear.Goals as goal
use Rattle.command_line.proofs.progress.ReporterWatcher.hear.Goals.{else-self-via-then-self+else-is_due_in_its_stride, else-self-via-else-self}

pub returns-else-self : goal.returns-else-self
returns-else-self g c =
    let line = states_line c.args.met c.args.waiting c.args.bytes in
    let before = c.args.self.now in
    elim c.else-self.branch [
      | else-self-via-then-self+else-is_due_in_its_stride w ↦ rw w.self-is (refl, writes_none g.E.Write.contents line before.is_wanted before.errors.now)
      | else-self-via-else-self w ↦ rw w.self-is (refl, writes_none g.E.Write.contents line before.is_wanted before.errors.now)
    ]
