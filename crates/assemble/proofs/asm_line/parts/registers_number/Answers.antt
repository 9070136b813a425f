use Rattle.std.proofs.Common.{arith, [], ◌∷◌}
use Rattle.std.proofs.lemmas.Grind.{common_steps}
use Rattle.assemble.specs.Grammar.{signed_number}
use Rattle.assemble.proofs.asm_line.parts.registers_number.Goals as goal

pub returns-clause-value : goal.returns-clause-value
returns-clause-value c = rw (c.names_then.ensures (signed_number ∷ [])) (grind (arith, common_steps))

pub returns-in_err-first-2-clause-value : goal.returns-in_err-first-2-clause-value
returns-in_err-first-2-clause-value c = rw (c.names_then.ensures (signed_number ∷ [])) (grind (arith, common_steps))

pub returns-in_err-first-clause-value : goal.returns-in_err-first-clause-value
returns-in_err-first-clause-value c = rw (c.names_then.ensures (signed_number ∷ [])) (grind (arith, common_steps))

pub returns-in_err-number-clause-value : goal.returns-in_err-number-clause-value
returns-in_err-number-clause-value c = rw (c.names_then.ensures (signed_number ∷ [])) (grind (arith, common_steps))

pub returns-in_err-second-clause-value : goal.returns-in_err-second-clause-value
returns-in_err-second-clause-value c = rw (c.names_then.ensures (signed_number ∷ [])) (grind (arith, common_steps))

pub returns-in_err-within-clause-value : goal.returns-in_err-within-clause-value
returns-in_err-within-clause-value c = rw (c.names_then.ensures (signed_number ∷ [])) (grind (arith, common_steps))
