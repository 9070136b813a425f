use Rattle.std.proofs.Common.{refl}
use Rattle.command_line.proofs.further.further_text.Goals as goal

pub returns-in-File : goal.returns-in-File
returns-in-File g c = rw (c.in-File.is, ← c.names_of.ensures) c.lost_text.ensures

pub returns-in-Line : goal.returns-in-Line
returns-in-Line g c = rw c.in-Line.is (record { value = c.nothing.ensures; untouched = refl })

pub returns-in-Unfinished : goal.returns-in-Unfinished
returns-in-Unfinished g c = rw c.in-Unfinished.is (record { value = c.nothing-in-Unfinished.ensures; untouched = refl })

pub returns-in-Memory : goal.returns-in-Memory
returns-in-Memory g c = rw c.in-Memory.is (record { value = c.nothing-in-Memory.ensures; untouched = refl })
