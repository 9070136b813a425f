use Rattle.std.proofs.Common.{refl}
use Rattle.machine.proofs.Tracing.{continues_evicted}
use Rattle.machine.proofs.run_trace.tracer.Tracer.evict.Goals as goal

pub returns-clause-ok : goal.returns-clause-ok
returns-clause-ok c = λ few. rw (← c.self.view_is) (continues_evicted _ _ c.args.line c.in_default.ensures.ok.runs c.in_default.ensures.ok.exact refl refl)
