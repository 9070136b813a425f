use Rattle.crash_image.proofs.Choosing.{raised_all, raised_pushed, raised_skipped}
use Rattle.crash_image.proofs.named.raised.Goals as goal
use Rattle.crash_image.proofs.named.raised.Goals.{then-line-entries+in_ok-push, else-line-entries}

pub loop-at-preserved : goal.loop-at-preserved
loop-at-preserved c = elim c.if-line-entries.branch [
  | then-line-entries+in_ok-push w ↦ rw w.found-is
      (raised_pushed c.args.bounds.now c.args.entries.now c.loop-at.at _ _ c.loop-at.found.items w.push.new.self.items _ c.loop-at-test.true c.requires
      w.if-line-entries.true w.in_ok-push.ensures.items c.loop-at.invariant)
  | else-line-entries w ↦ rw w.found-is
      (raised_skipped c.args.bounds.now c.args.entries.now c.loop-at.at _ _ c.loop-at.found.items _ c.loop-at-test.true c.requires
      w.if-line-entries.false c.loop-at.invariant)
]

pub returns : goal.returns
returns c = raised_all c.args.bounds.now c.args.entries.now c.loop-at.at c.loop-at.found.items _ c.loop-at-test.false c.loop-at.invariant
