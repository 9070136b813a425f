use Rattle.std.proofs.Common.{length}
use Rattle.assemble.specs.Emission.{Emitting}
use Rattle.assemble.specs.Labels.{place_at}
use Rattle.assemble.proofs.emission.sections_of.Given as goal

abbrev pub invariant-loop-line : goal.invariant-loop-line
invariant-loop-line l = Emitting (place_at l.labels) l.source l.rest l.number l.emission

abbrev pub decreases-loop-line : goal.decreases-loop-line
decreases-loop-line l = length l.rest
