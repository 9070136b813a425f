use Rattle.machine.specs.Represents.{text_bytes}
use Rattle.bus.specs.Alone.{GoesAlone}
use Rattle.bus.proofs.follower.go_on.Given as goal

abbrev pub invariant-loop-done : goal.invariant-loop-done
invariant-loop-done l = GoesAlone (text_bytes l.copy) l._done l.fn.state l.state
