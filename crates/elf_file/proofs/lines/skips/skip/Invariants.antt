use Rattle.std.proofs.Common.{◌-◌, length}
use Rattle.elf_file.proofs.Skipping.{IsOnTheWay}
use Rattle.elf_file.proofs.lines.skips.skip.Given as goal

abbrev pub invariant-loop-skips : goal.invariant-loop-skips
invariant-loop-skips l = IsOnTheWay l.initial.skips l.skips l.from l.at

abbrev pub decreases-loop-skips : goal.decreases-loop-skips
decreases-loop-skips l = length l.initial.skips - l.at
