use Rattle.std.proofs.Common.{◌≡◌, [], string_bytes}
use Rattle.report.specs.Rows.{two_digits}
use Rattle.report.proofs.MediumLines.{lines_below}
use Rattle.report.proofs.answer.digits_text.Given as goal

abbrev pub invariant-loop-byte : goal.invariant-loop-byte
invariant-loop-byte l = string_bytes l.text ≡ lines_below [] two_digits l.bytes l.byte-index
