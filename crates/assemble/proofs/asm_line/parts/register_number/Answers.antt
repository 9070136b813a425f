use Rattle.std.proofs.Common.{arith, [], ◌∷◌}
use Rattle.std.proofs.lemmas.Grind.{common_steps}
use Rattle.assemble.specs.Grammar.{signed_number}
use Rattle.assemble.proofs.asm_line.parts.register_number.Goals as goal

pub returns-in_err-first-clause-value : goal.returns-in_err-first-clause-value
returns-in_err-first-clause-value c = rw (c.name_then.ensures (signed_number ∷ [])) (grind (arith, common_steps))

pub returns-in_err-number-clause-value : goal.returns-in_err-number-clause-value
returns-in_err-number-clause-value c = rw (c.name_then.ensures (signed_number ∷ [])) (grind (arith, common_steps))

pub returns-in_err-register-clause-value : goal.returns-in_err-register-clause-value
returns-in_err-register-clause-value c = rw (c.name_then.ensures (signed_number ∷ [])) (grind (arith, common_steps))

pub returns-in_err-within-clause-value : goal.returns-in_err-within-clause-value
returns-in_err-within-clause-value c = rw (c.name_then.ensures (signed_number ∷ [])) (grind (arith, common_steps))

pub returns-clause-value : goal.returns-clause-value
returns-clause-value c = rw (c.name_then.ensures (signed_number ∷ [])) (grind (arith, common_steps))
