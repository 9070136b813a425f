use Rattle.std.proofs.Common.{arith, [], ◌∷◌}
use Rattle.std.proofs.lemmas.Grind.{common_steps}
use Rattle.assemble.specs.Grammar.{target}
use Rattle.assemble.proofs.asm_line.operands.name_target.Goals as goal

pub returns-in_err-name : goal.returns-in_err-name
returns-in_err-name c = rw (c.name_then.ensures (target ∷ [])) (grind (arith, common_steps))

pub returns-in_err-destination : goal.returns-in_err-destination
returns-in_err-destination c = rw (c.name_then.ensures (target ∷ [])) (grind (arith, common_steps))

pub returns : goal.returns
returns c = rw (c.name_then.ensures (target ∷ [])) (grind (arith, common_steps))
