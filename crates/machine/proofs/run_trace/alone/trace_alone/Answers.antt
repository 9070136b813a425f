use Rattle.std.proofs.Common.{replicate, refl, arith}
use Rattle.machine.specs.declared.schedule.items.Step.TheVariants.{Hart}
use Rattle.machine.specs.Traced.{steps_alone}
use Rattle.machine.specs.Tracers.{TracerView}
use Rattle.machine.proofs.OneHart.{continues_alone}
use Rattle.machine.proofs.Tracing.{stops_tracing, traces_all}
use Rattle.machine.proofs.run_trace.alone.trace_alone.Goals as goal

pub returns-in-Ok-clause-ok : goal.returns-in-Ok-clause-ok
returns-in-Ok-clause-ok c =
    let start : TracerView = record { machine = c.args.machine; made = 0; places = c.new.result.items } in
    let went = continues_alone start c.go_on-ended.new.tracer c.args.hart c.in-Ok.made refl (omega arith) c.in-Ok.ensures.ok in
    traces_all start _ (replicate c.in-Ok.made (Hart c.args.hart)) refl c.new.ensures.items (rw (← c.tracer.view_is) at went) c.events.ensures.limit

pub returns-in-Err-clause-err : goal.returns-in-Err-clause-err
returns-in-Err-clause-err c =
    stops_tracing (record { machine = c.args.machine; made = 0; places = c.new.result.items }) c.go_on-ended.new.tracer
    (steps_alone c.args.hart c.args.most) _ _ refl (omega arith) c.in-Err.ensures.err (rw (← c.tracer.view_is) c.events.ensures.limit)
