use Rattle.std.proofs.Common.{◌≡◌, [], string_bytes}
use Rattle.std.specs.List.{range_with_len}
use Rattle.line_memory.specs.Lines.{line_at}
use Rattle.report.specs.Rows.{row_of}
use Rattle.report.proofs.MediumLines.{lines_below}
use Rattle.report.proofs.medium.line.line_text.Given as goal

abbrev pub invariant-loop-row : goal.invariant-loop-row
invariant-loop-row l = string_bytes l.text ≡ lines_below [] (row_of l.line (line_at l.medium l.line)) (range_with_len 0 4) l.row
