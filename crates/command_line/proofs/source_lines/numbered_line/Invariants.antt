use Rattle.std.proofs.Common.{◌≡◌, ◌-◌}
use Rattle.std.specs.Prelude.{slice_get}
use Rattle.asm_lex.specs.Lines.{lines_of}
use Rattle.command_line.specs.SourceLines.{numbered_line}
use Rattle.command_line.proofs.source_lines.numbered_line.Given as goal

abbrev pub invariant-loop : goal.invariant-loop
invariant-loop l = numbered_line l.text l.number ≡ slice_get (lines_of l.rest) ((l.number - 1) - l.counter)
