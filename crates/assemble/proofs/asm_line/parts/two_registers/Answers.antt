use Rattle.std.proofs.Common.{arith, [], ◌∷◌}
use Rattle.std.proofs.lemmas.Grind.{common_steps}
use Rattle.assemble.specs.Grammar.{register_name}
use Rattle.assemble.proofs.asm_line.parts.two_registers.Goals as goal

pub returns-in_err-first : goal.returns-in_err-first
returns-in_err-first c = rw (c.name_then.ensures (register_name ∷ [])) (grind (arith, common_steps))

pub returns-in_err-second : goal.returns-in_err-second
returns-in_err-second c = rw (c.name_then.ensures (register_name ∷ [])) (grind (arith, common_steps))

pub returns-in_err-register : goal.returns-in_err-register
returns-in_err-register c = rw (c.name_then.ensures (register_name ∷ [])) (grind (arith, common_steps))

pub returns-in_err-register-2 : goal.returns-in_err-register-2
returns-in_err-register-2 c = rw (c.name_then.ensures (register_name ∷ [])) (grind (arith, common_steps))

pub returns : goal.returns
returns c = rw (c.name_then.ensures (register_name ∷ [])) (grind (arith, common_steps))
