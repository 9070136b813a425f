use Rattle.std.proofs.Common.{refl}
use Rattle.machine.specs.Steps.{all_steps}
use Rattle.machine.specs.Tracers.{TracerView}
use Rattle.machine.proofs.Tracing.{makes_all, stops_tracing, traces_all}
use Rattle.machine.proofs.run_trace.tracer.trace_run.Goals as goal

pub returns-in-Ok-clause-ok : goal.returns-in-Ok-clause-ok
returns-in-Ok-clause-ok c =
    let start : TracerView = record { machine = c.args.machine; made = 0; places = c.new.result.items } in
    let went = makes_all start c.walk-ended.new.stepper c.args.schedule.now refl c.requires (rw c.start.ensures at c.in-Ok.ensures.ok) in
    traces_all start _ (all_steps c.args.schedule.now) refl c.new.ensures.items (rw (← c.tracer.view_is) at went) c.events.ensures.limit

pub returns-in-Err-clause-err : goal.returns-in-Err-clause-err
returns-in-Err-clause-err c =
    rw c.from.ensures (stops_tracing (record { machine = c.args.machine; made = 0; places = c.new.result.items }) c.walk-ended.new.stepper
    c.args.schedule.now _ _ refl c.requires (rw c.start.ensures at c.in-Err.ensures.err) (rw (← c.tracer.view_is) c.events.ensures.limit))
