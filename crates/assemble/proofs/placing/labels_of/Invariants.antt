use Rattle.std.proofs.Common.{length}
use Rattle.assemble.specs.Passes.{Placing}
use Rattle.assemble.specs.Positions.{IsWithin}
use Rattle.assemble.proofs.placing.labels_of.Given as goal

abbrev pub invariant-loop-line : goal.invariant-loop-line
invariant-loop-line l = record {
  placing : Placing l.source l.rest l.number l.position l.labels;
  within : IsWithin l.position;
}

abbrev pub decreases-loop-line : goal.decreases-loop-line
decreases-loop-line l = length l.rest
