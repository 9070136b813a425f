use Rattle.std.proofs.Common.{◌≡◌, string_bytes}
use Rattle.report.specs.LossesEvents.{event_text}
use Rattle.report.specs.Unpersisted.{end_line}
use Rattle.report.proofs.LossesLines.{lines_below}
use Rattle.report.proofs.losses.unpersisted.tell_ends.Given as goal
use Rattle.report.specs.Places.{origin_in}

abbrev pub invariant-loop-end : goal.invariant-loop-end
invariant-loop-end l =
    string_bytes l.text ≡ lines_below (string_bytes l.initial.text) (end_line (event_text (origin_in l.places) l.traced)) l.ends l.end-index
