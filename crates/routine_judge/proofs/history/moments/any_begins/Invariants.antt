use Rattle.std.proofs.Common.{◌≡◌, [], take}
use Rattle.store_trace.specs.Marks.{begun}
use Rattle.routine_judge.proofs.history.moments.any_begins.Given as goal

abbrev pub invariant-loop-event : goal.invariant-loop-event
invariant-loop-event l = begun (take l.event-index l.events) ≡ []
