use Rattle.std.proofs.Common.{◌≡◌, string_bytes, take}
use Rattle.debugger.specs.Help.{help_lines, texts_of_rows}
use Rattle.debugger.proofs.sessions.help.lines_of.Given as goal

abbrev pub invariant-loop-row : goal.invariant-loop-row
invariant-loop-row l = string_bytes l.text ≡ help_lines (texts_of_rows (take l.row-index l.rows))
