use Rattle.std.proofs.Common.{◌-◌, length}
use Rattle.asm_lex.proofs.Judging.{IsJudgedTo}
use Rattle.asm_lex.proofs.are_tokens.Given as goal

abbrev pub invariant-loop-start : goal.invariant-loop-start
invariant-loop-start l = IsJudgedTo l.source l.at

abbrev pub decreases-loop-start : goal.decreases-loop-start
decreases-loop-start l = length l.source - l.at
