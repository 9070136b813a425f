use Rattle.std.proofs.Common.{ap, ◌∙◌}
use Rattle.recovery.specs.Routine.{RoutineView}
use Rattle.recovery.specs.World.{WorldView}
use Rattle.recovery.proofs.Resting.{recovers_with}
use Rattle.recovery.proofs.routine.Routine.run_traced.Goals as goal

pub returns-clause-ok : goal.returns-clause-ok
returns-clause-ok g c =
    let stands = rw (ap (λ (r : RoutineView). r.program) c.self.view_is) at c.begin.ensures.represents in
    recovers_with c.begin.new.self c.recover-found.new.self (g.S.Source.medium c.args.image.now) c.args.steps c.args.self.now.program
    c.set_back.new.self.world.asked c.take_trace-trace.result.events c.in_ok-found.found stands c.begin.ensures.keeps c.in_ok-found.ensures.ok
    (c.set_back.ensures.asked ∙ ap (λ (w : WorldView). w.asked) c.take_trace-trace.ensures.rest) c.take_trace-trace.ensures.trace
