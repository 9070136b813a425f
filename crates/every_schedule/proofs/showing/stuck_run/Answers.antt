use Rattle.std.proofs.lemmas.Result.{IfOk-weaker}
use Rattle.every_schedule.proofs.Asking.{some_so, stuck_by}
use Rattle.every_schedule.proofs.showing.stuck_run.Goals as goal

pub returns-in-Ok-clause-stuck : goal.returns-in-Ok-clause-stuck
returns-in-Ok-clause-stuck c =
    let goes = rw c.in_ok-followed.ensures at c.in-Ok.ensures.goes in
    IfOk-weaker c.recorded.result _ _ (λ found by. some_so found _ _ (λ run is.
    stuck_by c.args.setup.now c.in-Ok.schedule run c.args.requests.now goes.0 is goes.1 goes.2 c.requires.stuck) by) c.recorded.ensures
