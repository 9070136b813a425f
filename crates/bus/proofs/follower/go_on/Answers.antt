use Rattle.machine.specs.Represents.{text_bytes}
use Rattle.bus.proofs.Foreign.{not_stepped, stuck}
use Rattle.bus.proofs.follower.go_on.Goals as goal

pub returns-then-not-step_alone-clause-err : goal.returns-then-not-step_alone-clause-err
returns-then-not-step_alone-clause-err c =
    stuck (text_bytes c.args.copy.now) c.loop-done._done c.args.steps c.args.state.now c.loop-done.state c.loop-done-test.true
    c.loop-done.invariant (not_stepped _ _ _ _ c.if-not-step_alone.true c.step_alone.ensures)
