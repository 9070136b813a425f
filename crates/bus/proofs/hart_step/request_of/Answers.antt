use Rattle.machine.specs.Represents.{text_bytes}
use Rattle.bus.proofs.Seating.{not_trapped}
use Rattle.bus.proofs.hart_step.request_of.Goals as goal

pub unreachable-requires : goal.unreachable-requires
unreachable-requires c =
    not_trapped (text_bytes c.args.copy.now) c.args.state.now c.in-Err._trap c.requires (c.in-Err.ensures.traps c.args.state.now)
