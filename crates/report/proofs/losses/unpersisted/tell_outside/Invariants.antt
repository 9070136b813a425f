use Rattle.std.proofs.Common.{◌≡◌, string_bytes}
use Rattle.report.specs.LossesEvents.{event_text}
use Rattle.report.specs.Unpersisted.{outside_line}
use Rattle.report.proofs.LossesLines.{lines_below}
use Rattle.report.proofs.losses.unpersisted.tell_outside.Given as goal
use Rattle.report.specs.Places.{origin_in}

abbrev pub invariant-loop-lost : goal.invariant-loop-lost
invariant-loop-lost l =
    string_bytes l.text ≡ lines_below (string_bytes l.initial.text) (outside_line (event_text (origin_in l.places) l.traced)) l.outside l.lost-index
