use Rattle.std.proofs.Common.{ap}
use Rattle.std.proofs.lemmas.Result.{IfOk-weaker}
use Rattle.recovery.specs.Engine.{Comes}
use Rattle.recovery.specs.Routine.{Recovers, RoutineView}
use Rattle.recovery.proofs.Resting.{recovers}
use Rattle.recovery.proofs.routine.Routine.run.Goals as goal

pub returns-clause-ok : goal.returns-clause-ok
returns-clause-ok g c =
    let stands = rw (ap (λ (r : RoutineView). r.program) c.self.view_is) at c.begin.ensures.represents in
    IfOk-weaker c.recover-found.result
    (Comes c.begin.new.self c.recover-found.new.self (g.S.Source.medium c.args.image.now) c.args.steps)
    (Recovers c.args.self.now.program (g.S.Source.medium c.args.image.now) c.args.steps c.set_back.new.self.world.asked)
    (λ found comes. recovers c.begin.new.self c.recover-found.new.self (g.S.Source.medium c.args.image.now) c.args.steps c.args.self.now.program
    c.set_back.new.self.world.asked found stands comes c.set_back.ensures.asked) c.recover-found.ensures.ok
