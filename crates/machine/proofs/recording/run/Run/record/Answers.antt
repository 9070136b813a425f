use Rattle.std.proofs.Common.{ℕ, List, length, refl, ap, ◌∙◌, inr}
use Rattle.machine.specs.declared.fault.RunStop.{RunStop}
use Rattle.machine.proofs.Numbering.{at_step, each_event, fails_before, memory_stops, stops_recording}
use Rattle.machine.proofs.Kept.{run_kept, setup_of_kept}
use Rattle.machine.specs.Traced.{with_places}
use Rattle.machine.proofs.recording.run.Run.record.Goals as goal

pub returns-in-Err-clause-err : goal.returns-in-Err-clause-err
returns-in-Err-clause-err c =
    fails_before _ _ _ _ _ _ (ap (λ (stop : RunStop). stop.place) c.before_all.ensures)
    (rw (← ap (λ (stop : RunStop). stop.fault) c.before_all.ensures) at c.in-Err.ensures.refused)

pub returns-in-Err-trace_run-clause-err : goal.returns-in-Err-trace_run-clause-err
returns-in-Err-trace_run-clause-err c = inr (
  c.in-Ok.ensures.within,
  stops_recording _ c.args.setup.medium c.in-Ok.machine c.args.schedule.now _ c.in-Ok.ensures.ok c.in-Ok.ensures.lines c.in-Err-trace_run.ensures.err,
)

pub returns-in-Err-trace_run-clause-place : goal.returns-in-Err-trace_run-clause-place
returns-in-Err-trace_run-clause-place c = at_step c.in-Ok.machine c.args.schedule.now _ c.in-Err-trace_run.ensures.err

pub finish-requires-clause-lines : goal.finish-requires-clause-lines
finish-requires-clause-lines c =
    c.in-Ok-trace_run.ensures.ok.runs.lines ∙ ap (λ (lines : List (List ℕ)). length lines) c.in-Ok.ensures.lines

pub finish-requires-clause-each : goal.finish-requires-clause-each
finish-requires-clause-each c = each_event _ c.in-Ok.machine _ _ _ c.in-Ok.ensures.ok refl c.in-Ok-trace_run.ensures.ok

pub returns-in-Err-finish-clause-err : goal.returns-in-Err-finish-clause-err
returns-in-Err-finish-clause-err c = inr (
  c.in-Ok.ensures.within,
  memory_stops _ _ _ _ (ap (λ (stop : RunStop). stop.place) c.before_all-in-Err-finish.ensures)
      (ap (λ (stop : RunStop). stop.fault) c.before_all-in-Err-finish.ensures ∙ c.in-Err-finish.ensures.err),
)

pub invariant_of-result : goal.invariant_of-result
invariant_of-result c =
    run_kept c.args.setup c.args.schedule.now c.in-Ok.machine c.in-Ok-trace_run.run'.machine c.in-Ok-trace_run.run'.places.items
    c.in-Ok-finish.places.items c.in-Ok-finish.recorded (record {
      within = c.in-Ok.ensures.within;
      few_steps = c.requires;
      stands = c.in-Ok.ensures.ok;
      exact = c.in-Ok.ensures.exact;
      lines = c.in-Ok.ensures.lines;
      capacity = c.in-Ok.ensures.capacity;
      traces = c.in-Ok-trace_run.ensures.ok;
    }) c.in-Ok-finish.ensures.ok c.in-Ok-finish.ensures.places

pub returns-in-Ok-finish-clause-run : goal.returns-in-Ok-finish-clause-run
returns-in-Ok-finish-clause-run c = (invariant_of-result c).0

pub returns-in-Ok-finish-clause-setup : goal.returns-in-Ok-finish-clause-setup
returns-in-Ok-finish-clause-setup c =
    setup_of_kept c.args.setup c.args.schedule.now c.in-Ok.machine c.in-Ok-trace_run.run'.machine c.in-Ok-trace_run.run'.places.items
    (with_places c.in-Ok-finish.places.items c.in-Ok-finish.recorded.trace) c.in-Ok-finish.recorded (record {
      within = c.in-Ok.ensures.within;
      few_steps = c.requires;
      stands = c.in-Ok.ensures.ok;
      exact = c.in-Ok.ensures.exact;
      lines = c.in-Ok.ensures.lines;
      capacity = c.in-Ok.ensures.capacity;
      traces = c.in-Ok-trace_run.ensures.ok;
    }) c.in-Ok-finish.ensures.ok
