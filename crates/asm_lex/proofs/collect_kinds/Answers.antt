use Rattle.std.proofs.Common.{rules}
use Rattle.asm_lex.proofs.KindLists.{kinds_next, kinds_bad}
use Rattle.asm_lex.proofs.collect_kinds.Goals as goal

pub loop-start-preserved : goal.loop-start-preserved
loop-start-preserved c = rw c.in_ok-push.ensures.items (kinds_next _ _ _ _ _ _ c.loop-start.invariant c.in-Some.ensures (search rules))

pub returns-in_default-kind_of-clause-bad : goal.returns-in_default-kind_of-clause-bad
returns-in_default-kind_of-clause-bad c = λ same. kinds_bad _ _ _ _ _ c.loop-start.invariant c.in-Some.ensures (search rules)
