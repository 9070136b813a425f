use Rattle.std.proofs.Common.{ℕ, ◌<◌}
use Rattle.std.specs.Prelude.{slice_index_or}
use Rattle.crash_image.specs.View.{NamesLine}
use Rattle.store_trace.specs.declared.event.Event.{Event}
use Rattle.crash_image.proofs.names.has_lines.Given as goal

abbrev pub invariant-loop-event : goal.invariant-loop-event
invariant-loop-event l = (k : ℕ) (d : Event) → k < l.event-index → NamesLine l.lines (slice_index_or l.event-items k d)
