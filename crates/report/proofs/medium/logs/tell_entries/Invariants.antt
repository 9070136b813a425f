use Rattle.std.proofs.Common.{◌≡◌, string_bytes}
use Rattle.report.specs.Volumes.{entry_line}
use Rattle.report.proofs.MediumLines.{lines_below}
use Rattle.report.proofs.medium.logs.tell_entries.Given as goal

abbrev pub invariant-loop-entry : goal.invariant-loop-entry
invariant-loop-entry l = string_bytes l.text ≡ lines_below (string_bytes l.initial.text) entry_line l.log l.entry-index
