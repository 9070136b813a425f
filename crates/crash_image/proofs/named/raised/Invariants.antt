use Rattle.std.proofs.Common.{◌≡◌, ◌++◌, drop}
use Rattle.crash_image.specs.Named.{raised_from}
use Rattle.crash_image.proofs.named.raised.Given as goal

abbrev pub invariant-loop-at : goal.invariant-loop-at
invariant-loop-at l = l.found.items ++ raised_from (drop l.at l.bounds) (drop l.at l.entries) ≡ raised_from l.bounds l.entries
