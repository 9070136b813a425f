use Rattle.bus.proofs.Joined.{refused_so, run_so}
use Rattle.bus.proofs.together.gather_ended.Goals as goal

pub returns-in-Ok-clause-ok : goal.returns-in-Ok-clause-ok
returns-in-Ok-clause-ok c = λ given done.
    run_so c.args.bus given c.args.seats.items c.in-Ok.recorded c.args.refused c.in-None.is done c.in-Ok.ensures.ok

pub returns-in-Err-clause-err : goal.returns-in-Err-clause-err
returns-in-Err-clause-err c = λ given done.
    refused_so c.args.bus.harts given c.args.seats.items c.in-Err.fault done.same c.in-Err.ensures.err
