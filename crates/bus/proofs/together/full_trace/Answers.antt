use Rattle.std.proofs.Common.{◌∙◌, ap, sym, length}
use Rattle.bus.proofs.Joined.{refused_so, traced}
use Rattle.bus.proofs.together.full_trace.Goals as goal

pub returns-in-Ok : goal.returns-in-Ok
returns-in-Ok c = λ bus given seats same left ok err.
    traced bus given seats c.in-Ok.recorded c.args.is_left c.is_full.result c.fault_of_trace.result same left (rw c.in-Ok.is at ok)
    (λ held. ap length (sym c.trace.ensures.value) ∙ c.is_full.ensures.0 held) c.fault_of_trace.ensures

pub returns-in-Err : goal.returns-in-Err
returns-in-Err c = λ bus given seats same left ok err. refused_so bus.harts given seats c.in-Err.fault same (rw c.in-Err.is at err)
