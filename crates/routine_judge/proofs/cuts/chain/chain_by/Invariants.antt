use Rattle.std.proofs.Common.{◌≡◌, length}
use Rattle.routine_judge.specs.Chains.{BeginsAt, LeadsTo}
use Rattle.routine_judge.proofs.cuts.chain.chain_by.Given as goal

abbrev pub invariant-loop-made : goal.invariant-loop-made
invariant-loop-made l = record {
  leads : LeadsTo l.run l.chain.links.items l.chain.image l.chain.shown;
  begins : BeginsAt l.moment l.made l.chain.links.items;
  lines : l.routine.lines ≡ length l.chain.image;
  program : l.routine.program ≡ l.run.routine;
}
