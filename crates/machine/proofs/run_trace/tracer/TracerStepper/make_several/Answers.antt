use Rattle.std.proofs.Common.{refl, sym}
use Rattle.std.proofs.Math.Nat.{mod-eq_of_lt}
use Rattle.machine.proofs.Counting.{all_counted}
use Rattle.machine.specs.TracerLaws.{passed_is}
use Rattle.machine.proofs.Tracing.{continues_stopped}
use Rattle.machine.proofs.run_trace.tracer.TracerStepper.make_several.Goals as goal

pub returns-clause-made : goal.returns-clause-made
returns-clause-made c =
    rw (← c.self.view_is, c.in-Hart.is) (λ few. continues_stopped _ _ c.in-Hart.hart c.args.most (sym c.if-not-has_stopped.ensures) refl
    (mod-eq_of_lt (rw (passed_is, all_counted) at few)) refl)
