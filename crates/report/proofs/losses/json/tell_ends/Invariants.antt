use Rattle.std.proofs.Common.{◌≡◌, string_bytes}
use Rattle.report.specs.LossesJson.{end_object, event_object}
use Rattle.report.proofs.LossesLines.{lines_below}
use Rattle.report.proofs.losses.json.tell_ends.Given as goal
use Rattle.report.specs.Places.{origin_in}

abbrev pub invariant-loop-loss : goal.invariant-loop-loss
invariant-loop-loss l =
    string_bytes l.text ≡ lines_below (string_bytes l.initial.text) (end_object (event_object (origin_in l.places) l.traced)) l.ends l.loss-index
