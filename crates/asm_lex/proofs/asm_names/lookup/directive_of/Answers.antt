use Rattle.std.proofs.Common.{rules}
use Rattle.asm_lex.proofs.Directives.{is_balign, is_dword}
use Rattle.asm_lex.proofs.asm_names.lookup.directive_of.Goals as goal

pub returns-in-46-6 : goal.returns-in-46-6
returns-in-46-6 c = is_dword c.args.text.now (search rules) (search rules) (search rules) (search rules) (search rules) (search rules) (search rules)

pub returns-in-46-8 : goal.returns-in-46-8
returns-in-46-8 c = is_balign c.args.text.now (search rules) (search rules) (search rules) (search rules) (search rules) (search rules) (search rules) (search rules)
