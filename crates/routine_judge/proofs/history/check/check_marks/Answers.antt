use Rattle.std.proofs.Common.{ap, ◌∙◌, take, Some}
use Rattle.std.proofs.lemmas.Option.{slice_get-get_or}
use Rattle.routine_judge.proofs.Faulting.{sound_more}
use Rattle.routine_judge.proofs.Looping.{event_more}
use Rattle.routine_judge.proofs.history.check.check_marks.Goals as goal
use Rattle.routine_judge.specs.MarkFaults.{HasSoundBegin}
use Rattle.store_trace.specs.declared.event.Event.{Event}

pub loop-at-preserved : goal.loop-at-preserved
loop-at-preserved c =
    let before = take c.loop-at.at c.events-events.result.now in
    let marked = c.loop-at.invariant.1 in
    event_more c.args.overlap c.events-events.result.now c.loop-at.at _ c.loop-at.operations _ c.loop-at-test.true c.loop-at.invariant.0 marked
    (c.in_ok-check.ensures.ok before marked) (c.in_ok-note.ensures.marked before marked)

pub returns-in_err-note-clause-memory : goal.returns-in_err-note-clause-memory
returns-in_err-note-clause-memory c = λ told.
    let before = take c.loop-at.at c.events-events.result.now in
    let grows = c.in_err-note.ensures.grows in
    let here : HasSoundBegin c.args.overlap c.events-events.result.now = record {
      at = c.loop-at.at;
      hart = grows.0;
      op = grows.1;
      begins = slice_get-get_or c.events-events.result.now c.loop-at.at _ c.loop-at-test.true ∙ ap (λ (event : Event). Some event) grows.2;
      sound = sound_more c.args.overlap c.events-events.result.now c.loop-at.at _ c.loop-at.invariant.0 (c.in_ok-check.ensures.ok before c.loop-at.invariant.1);
    } in
    rw c.events-events.ensures.value at here
