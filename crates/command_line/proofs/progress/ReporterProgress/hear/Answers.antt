-- Where no line is due nothing is written.
use Rattle.std.proofs.Common.{refl}
use Rattle.command_line.specs.Progress.{progress_line}
use Rattle.command_line.proofs.OnTheWay.{writes_none}
use Rattle.command_line.proofs.progress.ReporterProgress.hear.Goals as goal
use Rattle.command_line.proofs.progress.ReporterProgress.hear.Goals.{else-self-via-then-self+else-is_due, else-self-via-else-self}

pub returns-else-self : goal.returns-else-self
returns-else-self g c =
    let line = progress_line c.args.moment c.args.moments c.args.images in
    let before = c.args.self.now in
    elim c.else-self.branch [
      | else-self-via-then-self+else-is_due w ↦ rw w.self-is (refl, writes_none g.E.Write.contents line before.is_wanted before.errors.now)
      | else-self-via-else-self w ↦ rw w.self-is (refl, writes_none g.E.Write.contents line before.is_wanted before.errors.now)
    ]
