use Rattle.store_trace.specs.History.{at_moment}
use Rattle.crash_image.specs.Pendings.{AreIndexed}
use Rattle.crash_image.proofs.trace_index.build.lines_of.Given as goal

abbrev pub invariant-loop-at : goal.invariant-loop-at
invariant-loop-at l = AreIndexed l.medium (at_moment l.events) l.at l.lines l.pending.items
