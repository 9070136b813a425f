-- The lines of the cut are among those that the events name.
use Rattle.crash_test.proofs.ImageLines.{lines_named}
use Rattle.crash_test.proofs.images.image_lines.Goals as goal

pub returns-clause-there : goal.returns-clause-there
returns-clause-there c = λ count named.
    rw c.in_ok-lines_of.ensures
    (lines_named c.in_ok-cut.image count c.args.trace.now.events c.args.moment c.in_ok-cut.cut named c.in_ok-cut.ensures.cut)
