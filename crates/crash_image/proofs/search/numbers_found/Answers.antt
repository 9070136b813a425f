use Rattle.crash_image.proofs.Choosing.{chosen_all, chosen_nowhere, chosen_pushed, chosen_skipped}
use Rattle.crash_image.proofs.search.numbers_found.Goals as goal
use Rattle.crash_image.proofs.search.numbers_found.Goals.{then-sought-gt0+in_ok-push, else-sought-gt0}

pub returns-in_default : goal.returns-in_default
returns-in_default c = chosen_nowhere c.args.all.now c.loop-line.line _ c.loop-line.entries.items _ c.loop-line-test.true c.in_default.is c.loop-line.invariant

pub loop-line-preserved : goal.loop-line-preserved
loop-line-preserved c = elim c.if-sought-gt0.branch [
  | then-sought-gt0+in_ok-push w ↦ rw w.entries-is
      (chosen_pushed c.args.all.now c.loop-line.line c.in-Some.number _ c.loop-line.entries.items w.push.new.self.items _ c.loop-line-test.true c.in-Some.is
      w.if-sought-gt0.true w.in_ok-push.ensures.items c.loop-line.invariant)
  | else-sought-gt0 w ↦ rw w.entries-is
      (chosen_skipped c.args.all.now c.loop-line.line c.in-Some.number _ c.loop-line.entries.items _ c.loop-line-test.true c.in-Some.is w.if-sought-gt0.false
      c.loop-line.invariant)
]

pub returns : goal.returns
returns c = chosen_all c.args.all.now c.loop-line.line c.loop-line.entries.items _ c.loop-line-test.false c.loop-line.invariant
