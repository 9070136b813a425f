use Rattle.std.proofs.Common.{length}
use Rattle.assemble.specs.LineNumbers.{Numbering}
use Rattle.assemble.specs.Positions.{IsWithin}
use Rattle.assemble.proofs.numbering.text_ends.Given as goal

abbrev pub invariant-loop-line : goal.invariant-loop-line
invariant-loop-line l = record {
  numbering : Numbering l.source l.rest l.number l.position l.labels l.ends.items;
  within : IsWithin l.position;
}

abbrev pub decreases-loop-line : goal.decreases-loop-line
decreases-loop-line l = length l.rest
