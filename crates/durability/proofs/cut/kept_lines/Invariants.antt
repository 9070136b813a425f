use Rattle.std.proofs.Common.{take}
use Rattle.durability.specs.Cuts.{IsKeptOf}
use Rattle.durability.specs.Given.{AreGiven}
use Rattle.durability.proofs.cut.kept_lines.Given as goal

abbrev pub invariant-loop-entry : goal.invariant-loop-entry
invariant-loop-entry l = AreGiven (IsKeptOf l.events l.moment) (take l.entry-index l.cut) l.told.items
