use Rattle.std.proofs.Common.{◌≢◌, refl, length, arith}
use Rattle.std.proofs.Math.Nat.{mod-eq_of_lt}
use Rattle.std.proofs.lemmas.Result.{on_ok_weaker}
use Rattle.machine.proofs.Tracing.{continues_event, continues_silent}
use Rattle.machine.proofs.run_trace.tracer.Tracer.step_hart.Goals as goal

pub returns-clause-ok : goal.returns-clause-ok
returns-clause-ok c =
    let longer : length c.step.new.self.shared.trace ≢ length c.self.inside.machine.shared.trace =
    rw (← c.events.ensures.value, ← c.events-before.ensures.value) (λ same. omega (arith, c.if-events-before.false)) in
    rw (← c.self.view_is) (on_ok_weaker c.push_place.result
    (λ placed few. continues_event _ _ c.args.hart c.hart.result.now _ c.in_default.ensures.ok.runs c.in_default.ensures.ok.exact c.hart.ensures refl (mod-eq_of_lt few) (mod-eq_of_lt few)
    longer placed)
    c.push_place.ensures.ok)

pub returns-then-events-before-clause-ok : goal.returns-then-events-before-clause-ok
returns-then-events-before-clause-ok c =
    rw (← c.self.view_is) (λ few. continues_silent _ _ c.args.hart c.in_default.ensures.ok.runs c.in_default.ensures.ok.exact (mod-eq_of_lt few)
    (rw (c.events-before.ensures.value, c.events.ensures.value) at c.if-events-before.true) refl)
