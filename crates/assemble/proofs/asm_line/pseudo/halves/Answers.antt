use Rattle.std.proofs.Common.{◌∙◌, ap, rules, w32, FitsSigned}
use Rattle.std.specs.Int.{cast_unsigned}
use Rattle.std.proofs.lemmas.Int.{to_z-of_z}
use Rattle.assemble.proofs.WholeNumbers.{whole}
use Rattle.assemble.proofs.asm_line.pseudo.halves.Goals as goal

pub returns-clause-whole : goal.returns-clause-whole
returns-clause-whole c =
    let fits : FitsSigned w32 c.args.number = search rules in
    let low_fits : FitsSigned w32 c.low_part.result = search rules in
    let word = c.cast_unsigned-word.ensures ∙ ap (cast_unsigned w32) (to_z-of_z w32 c.args.number fits) in
    rw (to_z-of_z w32 c.low_part.result low_fits, c.upper_part.ensures.value) (whole c.args.number c.low_part.result c.cast_unsigned-word.result fits low_fits word c.cast_unsigned-word.type_inv c.low_part.ensures.value)
