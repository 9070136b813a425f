use Rattle.std.proofs.Common.{ℕ, List, length, refl, sym, ap, ◌∙◌, inr}
use Rattle.machine.proofs.Leaving.{left_by}
use Rattle.machine.specs.declared.fault.RunStop.{RunStop}
use Rattle.machine.proofs.RecordingOneHart.{runs_to_most, traces_alone}
use Rattle.machine.proofs.Numbering.{at_step, each_event, fails_before, memory_stops, records_all, stops_recording}
use Rattle.machine.specs.Recorded.{RecordedView}
use Rattle.machine.proofs.recording.alone.record_alone.Goals as goal

pub returns-in-Err-clause-err : goal.returns-in-Err-clause-err
returns-in-Err-clause-err c =
    fails_before _ _ _ _ _ _ (ap (λ (stop : RunStop). stop.place) c.before_all.ensures)
    (rw (← ap (λ (stop : RunStop). stop.fault) c.before_all.ensures) at c.in-Err.ensures.refused)

pub returns-in-Err-trace_alone-clause-err : goal.returns-in-Err-trace_alone-clause-err
returns-in-Err-trace_alone-clause-err c = inr (
  c.in-Ok.ensures.within,
  stops_recording _ c.args.medium c.in-Ok.machine _ _ c.in-Ok.ensures.ok c.in-Ok.ensures.lines c.in-Err-trace_alone.ensures.err,
)

pub returns-in-Err-trace_alone-clause-place : goal.returns-in-Err-trace_alone-clause-place
returns-in-Err-trace_alone-clause-place c = at_step c.in-Ok.machine _ _ c.in-Err-trace_alone.ensures.err

pub finish_alone-requires-clause-lines : goal.finish_alone-requires-clause-lines
finish_alone-requires-clause-lines c =
    c.in-Ok-trace_alone.ensures.ok.runs.lines ∙ ap (λ (lines : List (List ℕ)). length lines) c.in-Ok.ensures.lines

pub finish_alone-requires-clause-each : goal.finish_alone-requires-clause-each
finish_alone-requires-clause-each c = each_event _ c.in-Ok.machine _ _ _ c.in-Ok.ensures.ok refl c.in-Ok-trace_alone.ensures.ok

pub returns-in-Ok-finish_alone-clause-ok : goal.returns-in-Ok-finish_alone-clause-ok
returns-in-Ok-finish_alone-clause-ok c =
    let kept = c.in-Ok-finish_alone.ensures.ok in
    let items = ap (λ (r : RecordedView). r.items) kept in
    let capacity = c.in-Ok.ensures.capacity ∙ sym (ap (λ (r : RecordedView). r.capacity) kept) in
    let start = c.in-Ok.ensures.lines ∙ sym (ap (λ (r : RecordedView). r.start) kept) in
    records_all _ c.in-Ok.machine c.in-Ok-trace_alone.traced.run.machine c.in-Ok-trace_alone.traced.run.places.items c.in-Ok-finish_alone.recorded
    c.in-Ok.ensures.ok refl (traces_alone _ _ _ _ _ items c.in-Ok-trace_alone.ensures.ok) start capacity
    (ap (λ (r : RecordedView). r.trace) kept) (ap (λ (r : RecordedView). r.harts) kept) (ap (λ (r : RecordedView). r.left) kept)
    (ap (λ (r : RecordedView). r.steps) kept)

pub returns-in-Ok-finish_alone-clause-exact : goal.returns-in-Ok-finish_alone-clause-exact
returns-in-Ok-finish_alone-clause-exact c =
    let kept = c.in-Ok-finish_alone.ensures.ok in
    let items = ap (λ (r : RecordedView). r.items) kept in
    let capacity = c.in-Ok.ensures.capacity ∙ sym (ap (λ (r : RecordedView). r.capacity) kept) in
    let traces = traces_alone _ _ _ _ _ items c.in-Ok-trace_alone.ensures.ok in
    left_by _ _ c.in-Ok.machine c.in-Ok-trace_alone.traced.run.machine _ _ c.in-Ok.ensures.exact traces.exact (traces.runs.capacity ∙ capacity)
    (ap (λ (r : RecordedView). r.left) kept)

pub returns-in-Ok-finish_alone-clause-steps : goal.returns-in-Ok-finish_alone-clause-steps
returns-in-Ok-finish_alone-clause-steps c =
    let kept = c.in-Ok-finish_alone.ensures.ok in
    record {
      made = c.in-Ok-trace_alone.traced.made;
      items = ap (λ (r : RecordedView). r.items) kept;
      most_made = c.in-Ok-trace_alone.ensures.most;
      ended = rw (ap (λ (r : RecordedView). r.harts) kept) (runs_to_most _ _ _ c.in-Ok-trace_alone.ensures.ended);
      running = λ k d fits run. c.in-Ok-trace_alone.ensures.running k _ d fits c.in-Ok.ensures.ok run;
    }

pub returns-in-Err-finish_alone-clause-err : goal.returns-in-Err-finish_alone-clause-err
returns-in-Err-finish_alone-clause-err c = inr (
  c.in-Ok.ensures.within,
  memory_stops _ _ _ _ (ap (λ (stop : RunStop). stop.place) c.before_all-in-Err-finish_alone.ensures)
      (ap (λ (stop : RunStop). stop.fault) c.before_all-in-Err-finish_alone.ensures ∙ c.in-Err-finish_alone.ensures.err),
)
