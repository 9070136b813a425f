use Rattle.std.proofs.Common.{◌≡◌, ◌++◌, length, map}
use Rattle.asm_lex.specs.Lines.{lines_of}
use Rattle.report.proofs.disassembly.begun.lines_of.Given as goal

abbrev pub invariant-loop-line : goal.invariant-loop-line
invariant-loop-line l = map (λ line. line.now) l.lines.items ++ lines_of l.rest ≡ lines_of l.fn.source

abbrev pub decreases-loop-line : goal.decreases-loop-line
decreases-loop-line l = length l.rest
