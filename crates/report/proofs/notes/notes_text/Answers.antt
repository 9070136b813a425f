-- The events of a run have harts and lines that are there.
use Rattle.std.proofs.Common.{◌∙◌, ap, length}
use Rattle.machine.specs.Traced.{events_in}
use Rattle.report.proofs.Noting.{each_there}
use Rattle.report.proofs.notes.notes_text.Goals as goal

pub tell_notes-requires-clause-each : goal.tell_notes-requires-clause-each
tell_notes-requires-clause-each c =
    rw (c.deref-2.ensures.value, c.in_ok-index.ensures.start, c.start.ensures.value) (each_there (length c.args.run.now.setup.medium) c.in_ok-traced.traced.items c.args.run.now.events
    (ap events_in c.in_ok-traced.ensures.value ∙ c.traced.ensures.events) (rw c.trace.ensures.value at c.events-events.ensures.each) c.start.ensures.named)
