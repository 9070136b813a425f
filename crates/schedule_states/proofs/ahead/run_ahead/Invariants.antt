use Rattle.bus.specs.Alone.{GoesAlone}
use Rattle.schedule_states.proofs.ahead.run_ahead.Given as goal

abbrev pub invariant-loop-done : goal.invariant-loop-done
invariant-loop-done g l = GoesAlone (g.T.Text.bytes l.text) l._done l.fn.hart l.hart
