use Rattle.elf_file.proofs.Skipping.{OwnSoFar}
use Rattle.elf_file.proofs.lines.skips.no_skips.Given as goal

abbrev pub invariant-loop-at : goal.invariant-loop-at
invariant-loop-at l = OwnSoFar l.skips.items l.at
