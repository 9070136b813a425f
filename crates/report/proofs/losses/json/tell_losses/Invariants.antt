use Rattle.std.proofs.Common.{◌≡◌, string_bytes}
use Rattle.report.specs.LossesJson.{event_object, lost_object}
use Rattle.report.specs.Named.{due_members}
use Rattle.report.proofs.LossesLines.{lines_below}
use Rattle.report.proofs.losses.json.tell_losses.Given as goal
use Rattle.report.specs.Places.{origin_in}

abbrev pub invariant-loop-lost : goal.invariant-loop-lost
invariant-loop-lost l =
    string_bytes l.text
    ≡ lines_below (string_bytes l.initial.text) (lost_object (due_members l.due) (event_object (origin_in l.places) l.traced)) l.losses l.lost-index
