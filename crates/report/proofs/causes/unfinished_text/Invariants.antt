use Rattle.std.proofs.Common.{◌≡◌, string_bytes}
use Rattle.report.specs.Places.{origin_in}
use Rattle.report.proofs.Lines.{causes_below}
use Rattle.report.proofs.causes.unfinished_text.Given as goal

abbrev pub invariant-loop-cause : goal.invariant-loop-cause
invariant-loop-cause l = string_bytes l.text ≡ causes_below (origin_in l.places) l.causes l.cause-index
