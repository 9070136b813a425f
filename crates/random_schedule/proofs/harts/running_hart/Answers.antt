use Rattle.std.proofs.Common.{arith, sym, ◌∙◌}
use Rattle.random_schedule.proofs.Running.{found_at, kept_on, passed}
use Rattle.random_schedule.proofs.harts.running_hart.Goals as goal
use Rattle.random_schedule.proofs.harts.running_hart.Goals.{then-not-has_stopped+else-left-eq0, else-not-has_stopped}

pub returns-then-left-eq0 : goal.returns-then-left-eq0
returns-then-left-eq0 c =
    found_at c.args.machine.now.harts c.loop-hart.hart c.loop-hart.left c.args.place (omega arith) (sym c.has_stopped.ensures ∙ c.if-not-has_stopped.true) c.loop-hart.invariant (omega arith)

pub loop-hart-preserved : goal.loop-hart-preserved
loop-hart-preserved c = elim c.if-not-has_stopped.branch [
  | then-not-has_stopped+else-left-eq0 w ↦ rw w.left-is (kept_on c.args.machine.now.harts c.loop-hart.hart c.loop-hart.left c.args.place (sym c.has_stopped.ensures ∙ w.if-not-has_stopped.true) c.loop-hart.invariant (omega arith))
  | else-not-has_stopped w ↦ rw w.left-is (passed c.args.machine.now.harts c.loop-hart.hart c.loop-hart.left c.args.place (sym c.has_stopped.ensures ∙ w.if-not-has_stopped.false) c.loop-hart.invariant)
]
