use Rattle.std.proofs.Common.{arith}
use Rattle.std.proofs.lemmas.Grind.{common_steps}
use Rattle.assemble.specs.Grammar.{register_then}
use Rattle.assemble.proofs.asm_line.operands.names_then.Goals as goal

pub returns-in_err-first : goal.returns-in_err-first
returns-in_err-first c = λ slots. rw (c.name_then.ensures (register_then slots)) (grind (arith, common_steps))

pub returns-in_err-second : goal.returns-in_err-second
returns-in_err-second c = λ slots. rw (c.name_then.ensures (register_then slots)) (grind (arith, common_steps, c.name_then-2.ensures slots))

pub returns : goal.returns
returns c = λ slots. rw (c.name_then.ensures (register_then slots)) (grind (arith, common_steps, c.name_then-2.ensures slots))
