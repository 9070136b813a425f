use Rattle.std.proofs.Common.{◌≡◌, string_bytes}
use Rattle.report.specs.Events.{numbered_line}
use Rattle.report.specs.Places.{origin_in}
use Rattle.report.proofs.Lines.{lines_below}
use Rattle.report.proofs.events.trace_text.Given as goal

abbrev pub invariant-loop-index : goal.invariant-loop-index
invariant-loop-index l = string_bytes l.text ≡ lines_below (numbered_line (origin_in l.places)) l.traced l.index
