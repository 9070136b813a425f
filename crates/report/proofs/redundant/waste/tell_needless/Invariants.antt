use Rattle.std.proofs.Common.{◌≡◌, ◌++◌, string_bytes}
use Rattle.report.specs.Places.{origin_in}
use Rattle.std.specs.List.{zip}
use Rattle.report.specs.Events.{whole}
use Rattle.report.specs.Forms.{reason_form}
use Rattle.report.proofs.Telling.{judged_below}
use Rattle.report.proofs.redundant.waste.tell_needless.Given as goal

abbrev pub invariant-loop-at : goal.invariant-loop-at
invariant-loop-at l = string_bytes l.text ≡ string_bytes l.fn.text ++ judged_below (reason_form l.form (whole (origin_in l.places) l.lines)) (zip l.traced l.reasons) l.at
