use Rattle.std.proofs.Common.{ap, refl}
use Rattle.machine.specs.Represents.{MachineView}
use Rattle.machine.proofs.Stepped.{stepped_evict}
use Rattle.machine.proofs.machine.Machine.evict.Goals as goal

pub returns-clause-ok : goal.returns-clause-ok
returns-clause-ok c =
    let shared = ap (λ (m : MachineView). m.shared) c.self.view_is in
    stepped_evict c.args.self.now _ c.evict_line.new.shared c.args.line (rw shared at c.in_ok-evict_line.ensures.there)
    (rw shared at c.in_ok-evict_line.ensures.ok) (rw (← c.self.view_is) refl)
