use Rattle.std.proofs.Common.{◌≡◌, string_bytes}
use Rattle.report.specs.Rows.{byte_text}
use Rattle.report.proofs.MediumLines.{lines_below}
use Rattle.report.proofs.medium.line.tell_bytes.Given as goal

abbrev pub invariant-loop-byte : goal.invariant-loop-byte
invariant-loop-byte l = string_bytes l.text ≡ lines_below (string_bytes l.initial.text) byte_text l.bytes l.byte-index
