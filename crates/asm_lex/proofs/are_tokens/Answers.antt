use Rattle.std.proofs.Common.{rules, sym}
use Rattle.asm_lex.proofs.Judging.{judged_bad, judged_next}
use Rattle.asm_lex.proofs.are_tokens.Goals as goal

pub returns-then-is_none : goal.returns-then-is_none
returns-then-is_none c = sym (judged_bad _ _ _ _ c.loop-start.invariant c.in-Some.ensures (search rules))

pub loop-start-preserved : goal.loop-start-preserved
loop-start-preserved c = judged_next _ _ _ _ c.loop-start.invariant c.in-Some.ensures (search rules)
