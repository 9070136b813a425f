use Rattle.std.proofs.Common.{◌≡◌, string_bytes}
use Rattle.report.specs.Names.{name_byte}
use Rattle.report.proofs.MediumLines.{lines_below}
use Rattle.report.proofs.medium.names.tell_name.Given as goal

abbrev pub invariant-loop-byte : goal.invariant-loop-byte
invariant-loop-byte l = string_bytes l.text ≡ lines_below (string_bytes l.initial.text) name_byte l.name l.byte-index
