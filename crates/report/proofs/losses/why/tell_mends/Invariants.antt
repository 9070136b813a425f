use Rattle.std.proofs.Common.{◌≡◌, string_bytes}
use Rattle.report.specs.LossesEvents.{event_text}
use Rattle.report.specs.Mends.{mend_line}
use Rattle.report.proofs.LossesLines.{lines_below}
use Rattle.report.proofs.losses.why.tell_mends.Given as goal
use Rattle.report.specs.Places.{origin_in}

abbrev pub invariant-loop-one : goal.invariant-loop-one
invariant-loop-one l =
    string_bytes l.text ≡ lines_below (string_bytes l.initial.text) (mend_line (event_text (origin_in l.places) l.traced)) l.mends l.one-index
