use Rattle.std.proofs.Common.{arith}
use Rattle.std.proofs.lemmas.Grind.{common_steps}
use Rattle.assemble.specs.Grammar.{memory_place}
use Rattle.assemble.proofs.asm_line.operands.name_place.Goals as goal

pub returns-in_err-name : goal.returns-in_err-name
returns-in_err-name c = rw (c.name_then.ensures (memory_place)) (grind (arith, common_steps))

pub returns-in_err-offset : goal.returns-in_err-offset
returns-in_err-offset c = rw (c.name_then.ensures (memory_place)) (grind (arith, common_steps))

pub returns : goal.returns
returns c = rw (c.name_then.ensures (memory_place)) (grind (arith, common_steps))
