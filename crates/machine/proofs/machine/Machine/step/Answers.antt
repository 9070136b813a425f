use Rattle.std.proofs.Common.{ap}
use Rattle.machine.specs.Represents.{MachineView}
use Rattle.machine.proofs.Refusing.{full_exactly, no_hart_exactly, no_line_exactly}
use Rattle.machine.proofs.machine.Machine.step.Goals as goal

pub returns-clause-no_hart : goal.returns-clause-no_hart
returns-clause-no_hart c = no_hart_exactly c.args.self.now _ c.args.step _ c.make_step-made.ensures.ok c.make_step-made.ensures.refused

pub returns-clause-no_line : goal.returns-clause-no_line
returns-clause-no_line c = no_line_exactly c.args.self.now _ c.args.step _ c.make_step-made.ensures.ok c.make_step-made.ensures.refused

pub returns-clause-full : goal.returns-clause-full
returns-clause-full c =
    let shared = ap (λ (m : MachineView). m.shared) c.self.view_is in
    full_exactly c.args.self.now _ c.args.step _ c.make_step-made.ensures.ok (rw shared at c.self.invariant.2) c.make_step-made.ensures.refused
