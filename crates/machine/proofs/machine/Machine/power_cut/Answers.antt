use Rattle.std.proofs.Common.{◌∙◌, ap}
use Rattle.machine.specs.Represents.{MachineView}
use Rattle.machine.proofs.Shown.{exact_medium}
use Rattle.machine.proofs.machine.Machine.power_cut.Goals as goal

pub returns-clause-cut : goal.returns-clause-cut
returns-clause-cut c =
    let shared = ap (λ (m : MachineView). m.shared) c.self.view_is in
    let cut = rw shared at c.power_cut.ensures.cut in
    λ d stands. cut d.common stands.shared

pub returns-clause-written_back : goal.returns-clause-written_back
returns-clause-written_back c =
    let shared = ap (λ (m : MachineView). m.shared) c.self.view_is in
    let written = rw shared at c.power_cut.ensures.written_back in
    λ d lines stands few among. written d.common lines stands.shared few among

pub returns-clause-exact : goal.returns-clause-exact
returns-clause-exact c =
    let shared = ap (λ (m : MachineView). m.shared) c.self.view_is in
    let lines = rw shared at c.power_cut.ensures.lines in
    λ d stands. lines ∙ exact_medium _ d.common stands.exact
