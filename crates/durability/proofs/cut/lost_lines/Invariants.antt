use Rattle.std.proofs.Common.{take}
use Rattle.durability.specs.Cuts.{IsLostOf}
use Rattle.durability.specs.Given.{AreGiven}
use Rattle.durability.proofs.cut.lost_lines.Given as goal

abbrev pub invariant-loop-entry : goal.invariant-loop-entry
invariant-loop-entry l = AreGiven (IsLostOf l.events l.moment) (take l.entry-index l.cut) l.told.items
