use Rattle.std.proofs.Common.{take}
use Rattle.std.specs.BTreeMap.{get}
use Rattle.std.specs.List.{zip}
use Rattle.std.specs.Ordering.{nat_cmp}
use Rattle.report.specs.Tallies.{AreUses}
use Rattle.report.proofs.redundant.uses.uses_by_pc.Given as goal

abbrev pub invariant-loop-at : goal.invariant-loop-at
invariant-loop-at l = AreUses (take l.at (zip l.traced l.reasons)) (get nat_cmp l.uses)
