use Rattle.std.proofs.Common.{arith, [], ◌∷◌}
use Rattle.std.proofs.lemmas.Grind.{common_steps}
use Rattle.assemble.specs.Grammar.{label_name}
use Rattle.assemble.proofs.asm_line.parts.register_label.Goals as goal

pub returns-in_err-first : goal.returns-in_err-first
returns-in_err-first c = rw (c.name_then.ensures (label_name ∷ [])) (grind (arith, common_steps))

pub returns-in_err-label : goal.returns-in_err-label
returns-in_err-label c = rw (c.name_then.ensures (label_name ∷ [])) (grind (arith, common_steps))

pub returns-in_err-register : goal.returns-in_err-register
returns-in_err-register c = rw (c.name_then.ensures (label_name ∷ [])) (grind (arith, common_steps))

pub returns : goal.returns
returns c = rw (c.name_then.ensures (label_name ∷ [])) (grind (arith, common_steps))
