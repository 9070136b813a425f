-- A schedule of so many steps at most is within what a schedule's text has.
use Rattle.std.proofs.Common.{arith}
use Rattle.machine.specs.RunValues.{start_of}
use Rattle.command_line.proofs.interleave.drawn.Goals as goal

pub returns-clause-few : goal.returns-clause-few
returns-clause-few c =
    omega (arith, (c.in_ok-interleave.ensures.whole (start_of c.requires.start.0) c.requires.start.1.represents).within, c.requires.steps)
