use Rattle.std.proofs.Common.{◌≡◌, string_bytes}
use Rattle.machine.specs.Traced.{events_in}
use Rattle.store_trace.specs.History.{at_moment}
use Rattle.report.specs.Notes.{AreCleaned, note_line}
use Rattle.report.specs.Places.{origin_in}
use Rattle.report.proofs.Lines.{lines_below}
use Rattle.report.proofs.notes.tell_notes.Given as goal

abbrev pub invariant-loop-at : goal.invariant-loop-at
invariant-loop-at l = record {
  text : string_bytes l.notes ≡ lines_below (note_line (origin_in l.places) l.words l.traced) l.traced l.at;
  cleaned : AreCleaned (at_moment (events_in l.traced) l.at) l.cleaned;
}
