use Rattle.std.proofs.Common.{◌≡◌, ◌++◌, string_bytes, take}
use Rattle.arguments.specs.Codes.{lines, texts_of_rows}
use Rattle.arguments.proofs.codes.showing.push_lines.Given as goal

abbrev pub invariant-loop-row : goal.invariant-loop-row
invariant-loop-row l = string_bytes l.text ≡ string_bytes l.fn.text ++ lines (texts_of_rows (take l.row-index l.rows))
