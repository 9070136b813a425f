use Rattle.std.proofs.Common.{◌≡◌}
use Rattle.assemble.specs.Steps.{lowest_code, numbers_left, left_len}
use Rattle.assemble.proofs.asm_line.directives.lowest_code.Given as goal

abbrev pub invariant-loop-rest : goal.invariant-loop-rest
invariant-loop-rest l = lowest_code l.code (numbers_left l.rest) ≡ lowest_code l.code (numbers_left l.lexemes)

abbrev pub decreases-loop-rest : goal.decreases-loop-rest
decreases-loop-rest l = left_len l.rest
