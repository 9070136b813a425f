use Rattle.std.proofs.Common.{arith, [], ◌∷◌}
use Rattle.std.proofs.lemmas.Grind.{common_steps}
use Rattle.assemble.specs.Grammar.{target}
use Rattle.assemble.proofs.asm_line.parts.registers_target.Goals as goal

pub returns : goal.returns
returns c = rw (c.names_then.ensures (target ∷ [])) (grind (arith, common_steps))

pub returns-in_err-first : goal.returns-in_err-first
returns-in_err-first c = rw (c.names_then.ensures (target ∷ [])) (grind (arith, common_steps))

pub returns-in_err-register : goal.returns-in_err-register
returns-in_err-register c = rw (c.names_then.ensures (target ∷ [])) (grind (arith, common_steps))

pub returns-in_err-register-2 : goal.returns-in_err-register-2
returns-in_err-register-2 c = rw (c.names_then.ensures (target ∷ [])) (grind (arith, common_steps))

pub returns-in_err-target : goal.returns-in_err-target
returns-in_err-target c = rw (c.names_then.ensures (target ∷ [])) (grind (arith, common_steps))
