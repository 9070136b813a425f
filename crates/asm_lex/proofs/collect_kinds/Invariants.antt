use Rattle.std.proofs.Common.{◌-◌, length}
use Rattle.asm_lex.proofs.KindLists.{HasKindsTo}
use Rattle.asm_lex.proofs.collect_kinds.Given as goal

abbrev pub invariant-loop-start : goal.invariant-loop-start
invariant-loop-start l = HasKindsTo l.source l.found.items l.at

abbrev pub decreases-loop-start : goal.decreases-loop-start
decreases-loop-start l = length l.source - l.at
