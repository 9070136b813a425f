use Rattle.std.proofs.Common.{sym, arith}
use Rattle.recovery.proofs.Running.{kept_more, runs_full, runs_more, runs_stopped}
use Rattle.recovery.proofs.engine.Engine.run.Goals as goal

pub returns-then-has_stopped-clause-ok : goal.returns-then-has_stopped-clause-ok
returns-then-has_stopped-clause-ok g c =
    runs_stopped c.args.self.now c.loop.self (g.S.Source.medium c.args.image.now) c.loop.counter c.args.steps (omega arith) c.loop.invariant.0
    (sym c.if-has_stopped.ensures)

pub returns-then-not-branch-clause-ok : goal.returns-then-not-branch-clause-ok
returns-then-not-branch-clause-ok g c =
    runs_full c.args.self.now c.loop.self c.step.new.self (g.S.Source.medium c.args.image.now) c.loop.counter c.args.steps (omega arith)
    c.loop.invariant.0 (rw c.if-not-branch.true at c.in_ok-step.ensures.ok)

pub loop-preserved : goal.loop-preserved
loop-preserved g c = (
  runs_more c.args.self.now c.loop.self c.step.new.self (g.S.Source.medium c.args.image.now) c.loop.counter c.loop.invariant.0
      (rw c.if-not-branch.false at c.in_ok-step.ensures.ok),
  c.step.ensures.over,
  kept_more c.args.self.now c.loop.self c.step.new.self c.loop.invariant.2 c.step.ensures.kept,
)
