use Rattle.std.proofs.Common.{◌≡◌, string_bytes}
use Rattle.report.specs.Json.{numbered_object}
use Rattle.report.specs.Places.{origin_in}
use Rattle.report.proofs.Lines.{lines_below}
use Rattle.report.proofs.json.trace_json.Given as goal

abbrev pub invariant-loop-index : goal.invariant-loop-index
invariant-loop-index l = string_bytes l.text ≡ lines_below (numbered_object (origin_in l.places)) l.traced l.index
