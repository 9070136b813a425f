use Rattle.std.proofs.Common.{◌*◌, ◌-◌, ◌^◌, ◌<◌, All, length}
use Rattle.assemble.specs.Meanings.{width_bytes}
use Rattle.assemble.proofs.NumberLines.{ReadTo}
use Rattle.assemble.proofs.asm_line.number_line.values_after.Given as goal

abbrev pub invariant-loop-found : goal.invariant-loop-found
invariant-loop-found l = ReadTo l.width l.line l.from l.found.items l.at × All (λ v. v < 2 ^ (8 * width_bytes l.width)) l.found.items

abbrev pub decreases-loop-found : goal.decreases-loop-found
decreases-loop-found l = length l.line - l.at
