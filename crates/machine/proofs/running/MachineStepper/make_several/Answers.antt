use Rattle.std.proofs.Common.{sym}
use Rattle.machine.proofs.Steps.{stopped_both}
use Rattle.machine.proofs.running.MachineStepper.make_several.Goals as goal

pub returns-then-has_stopped-clause-made : goal.returns-then-has_stopped-clause-made
returns-then-has_stopped-clause-made c = rw c.in-Hart.is (stopped_both c.args.self.now c.in-Hart.hart c.args.most (sym c.if-has_stopped.ensures))
