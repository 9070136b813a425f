-- By whether a line is asked for.
use Rattle.command_line.proofs.show.shown.Goals as goal

pub returns-in-Some : goal.returns-in-Some
returns-in-Some c = rw c.in-Some.is c.shown_line.ensures

pub returns-in-None : goal.returns-in-None
returns-in-None c = rw c.in-None.is c.shown_volume.ensures
