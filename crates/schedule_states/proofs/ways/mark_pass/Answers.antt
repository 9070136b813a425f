use Rattle.std.proofs.Common.{arith}
use Rattle.schedule_states.proofs.Marking.{pass_begun, pass_goes_on, pass_marks}
use Rattle.schedule_states.proofs.ways.mark_pass.Goals as goal
use Rattle.schedule_states.proofs.ways.mark_pass.Goals.{then-mark_one, else-mark_one}

pub loop-behind-init : goal.loop-behind-init
loop-behind-init c = pass_begun c.args.next.now c.args.marks.now c.requires.count

pub loop-behind-preserved : goal.loop-behind-preserved
loop-behind-preserved c = elim c.if-mark_one.branch [
  | then-mark_one w ↦ rw w.has_marked-is (pass_marks c.args.next.now c.args.marks.now c.loop-behind.marks c.mark_one.new.marks c.loop-behind.has_marked c.loop-behind.behind _
      c.mark_one.ensures.count (c.mark_one.ensures.marked w.if-mark_one.true) c.loop-behind.invariant)
  | else-mark_one w ↦
      let still = c.mark_one.ensures.still w.if-mark_one.false in
      rw w.has_marked-is (pass_goes_on c.args.next.now c.args.marks.now c.loop-behind.marks c.mark_one.new.marks c.loop-behind.has_marked c.loop-behind.behind _
      still.0 still.1 (omega (arith, c.loop-behind-test.true)) c.loop-behind.invariant)
]

pub returns-clause-back : goal.returns-clause-back
returns-clause-back c told n = c.loop-behind.invariant.back told n (omega (arith, c.loop-behind-test.false))
