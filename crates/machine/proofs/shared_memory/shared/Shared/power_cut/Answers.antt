use Rattle.std.proofs.Common.{ap}
use Rattle.machine.specs.SharedView.{SharedView}
use Rattle.machine.proofs.Shown.{leaves_cut, leaves_written_back}
use Rattle.machine.proofs.shared_memory.shared.Shared.power_cut.Goals as goal

pub returns-clause-cut : goal.returns-clause-cut
returns-clause-cut c =
    let cache = ap (λ (s : SharedView). s.cache) c.self.view_is in
    leaves_cut _ _ (rw cache at c.power_cut.ensures.cut)

pub returns-clause-written_back : goal.returns-clause-written_back
returns-clause-written_back c =
    let cache = ap (λ (s : SharedView). s.cache) c.self.view_is in
    leaves_written_back _ _ (rw cache at c.power_cut.ensures.back)
