use Rattle.std.proofs.Common.{rules}
use Rattle.asm_lex.proofs.Digits.{digit_first}
use Rattle.asm_lex.proofs.kinds.written.Goals as goal

pub returns-in_default : goal.returns-in_default
returns-in_default c = digit_first c.args.text.now c.value.result (search rules) (search rules) c.value.ensures
