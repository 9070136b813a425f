use Rattle.std.proofs.Common.{take}
use Rattle.report.specs.SlipNearest.{IsFarBy}
use Rattle.report.proofs.slips.nearest.with_one_of.Given as goal

abbrev pub invariant-loop-letter : goal.invariant-loop-letter
invariant-loop-letter l = IsFarBy l.name l.place l.removed (take l.letter-index l.letters)
