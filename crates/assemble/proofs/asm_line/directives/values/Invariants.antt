use Rattle.std.proofs.Common.{◌≡◌, ◌*◌, ◌^◌, ◌<◌, All}
use Rattle.assemble.specs.Meanings.{width_bytes}
use Rattle.assemble.specs.Numbers.{numbers_of}
use Rattle.assemble.specs.Steps.{all_seen, numbers_left, left_len, values_by}
use Rattle.assemble.proofs.NumberLists.{values_left}
use Rattle.assemble.proofs.asm_line.directives.values.Given as goal

abbrev pub invariant-loop-rest : goal.invariant-loop-rest
invariant-loop-rest l =
    (values_left l.width l.found.items (numbers_left l.rest) ≡ values_by l.width (numbers_of (all_seen l.lexemes)))
    × All (λ v. v < 2 ^ (8 * width_bytes l.width)) l.found.items

abbrev pub decreases-loop-rest : goal.decreases-loop-rest
decreases-loop-rest l = left_len l.rest
