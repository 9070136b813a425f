use Rattle.std.proofs.Common.{◌≤◌}
use Rattle.routine_judge.specs.WidePasses.{AreQuiet}
use Rattle.routine_judge.proofs.cuts.wide.before_fence_or_mark.Given as goal

abbrev pub invariant-loop-at : goal.invariant-loop-at
invariant-loop-at l = record { order : l.moment ≤ l.at; quiet : AreQuiet l.trace.events l.moment l.at }
