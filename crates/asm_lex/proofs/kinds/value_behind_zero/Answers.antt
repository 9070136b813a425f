use Rattle.std.proofs.Common.{rules}
use Rattle.asm_lex.proofs.Digits.{zero_then_digits}
use Rattle.asm_lex.proofs.kinds.value_behind_zero.Goals as goal

pub returns-in-120 : goal.returns-in-120
returns-in-120 c = zero_then_digits c.args.rest.now c.value.result (search rules) (search rules) c.value.ensures
