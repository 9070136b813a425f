use Rattle.std.proofs.Common.{reverse, take}
use Rattle.bus.specs.Listed.{AreListed}
use Rattle.bus.proofs.listing.list_all.Given as goal

abbrev pub invariant-loop-entry : goal.invariant-loop-entry
invariant-loop-entry l = AreListed l.seats l.counts (reverse (take l.entry-index l.history)) l.runs
