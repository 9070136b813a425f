use Rattle.std.proofs.Common.{refl}
use Rattle.hart.specs.declared.state.Status.TheVariants.{Trapped}
use Rattle.recovery.proofs.Stepping.{asked_goes, goes_alone, goes_trapped}
use Rattle.recovery.proofs.engine.Engine.step.Goals as goal

pub returns-in-Err-clause-ok : goal.returns-in-Err-clause-ok
returns-in-Err-clause-ok g c =
    goes_trapped c.args.self.now (record c.args.self.now { hart = record c.args.self.now.hart { status = Trapped c.in-Err.trap } })
    (g.S.Source.medium c.args.image.now) c.in-Err.trap c.requires.running (c.in-Err.ensures.traps c.args.self.now.hart) refl

pub returns-in-Done-clause-ok : goal.returns-in-Done-clause-ok
returns-in-Done-clause-ok g c =
    let needs = c.in-Ok.ensures.needs c.args.self.now.hart in
    goes_alone c.args.self.now (record c.args.self.now { hart = c.advance.new.state }) (g.S.Source.medium c.args.image.now) c.advance.new.state
    c.requires.running (rw (← c.in-Done.ensures.effect) at needs) refl

pub returns-in-Stop-clause-ok : goal.returns-in-Stop-clause-ok
returns-in-Stop-clause-ok g c =
    let needs = c.in-Ok.ensures.needs c.args.self.now.hart in
    rw c.in-Stop.ensures.kept
    (goes_trapped c.args.self.now (record c.args.self.now { hart = record c.args.self.now.hart { status = Trapped c.in-Stop.trap } })
    (g.S.Source.medium c.args.image.now) c.in-Stop.trap c.requires.running (rw (← c.in-Stop.ensures.effect) at needs) refl)

pub returns-in-Ask-clause-ok : goal.returns-in-Ask-clause-ok
returns-in-Ask-clause-ok g c =
    let needs = c.in-Ok.ensures.needs c.args.self.now.hart in
    asked_goes c.args.self.now c.ask.new.self (g.S.Source.medium c.args.image.now) c.in-Ok.instr c.in-Ask.request c.ask.result
    c.requires.running (rw (← c.in-Ask.ensures.effect) at needs) c.in-Ok.ensures.spelled
    (rw c.in-Ask.ensures.kept at c.ask.ensures.ok)
