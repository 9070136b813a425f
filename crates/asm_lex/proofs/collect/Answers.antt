use Rattle.std.proofs.Common.{refl, rules}
use Rattle.asm_lex.proofs.Lexing.{lexed_next, lexed_bad}
use Rattle.asm_lex.proofs.collect.Goals as goal

pub loop-start-preserved : goal.loop-start-preserved
loop-start-preserved c = rw c.in_ok-push.ensures.items (lexed_next _ _ _ _ _ _ _ c.loop-start.invariant c.in-Some.ensures refl (search rules) refl refl)

pub returns-in_default-kind_of-clause-bad : goal.returns-in_default-kind_of-clause-bad
returns-in_default-kind_of-clause-bad c = λ same. lexed_bad _ _ _ _ _ _ c.loop-start.invariant c.in-Some.ensures (search rules)
