use Rattle.std.proofs.Common.{ap, refl, sym}
use Rattle.machine.specs.SharedView.{SharedView}
use Rattle.machine.proofs.Serving.{reserves}
use Rattle.machine.proofs.shared_memory.shared.Shared.load_reserved.Goals as goal

pub returns-in-Ok : goal.returns-in-Ok
returns-in-Ok c =
    reserves c.args.self.now c.read.new.self _ c.self.inside.reservations c.reserve.new.self c.args.hart c.args.address
    c.reserved_line.result c.args.width c.in-Ok.value c.in-Ok.ensures.ok c.in-Ok.ensures.reads
    (sym (ap (λ (s : SharedView). s.reserved) c.self.view_is)) (rw (← c.self.view_is) refl)
    c.reserved_line.ensures c.reserve.ensures
