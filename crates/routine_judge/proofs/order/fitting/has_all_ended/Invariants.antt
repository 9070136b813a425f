use Rattle.std.proofs.Common.{map, take}
use Rattle.routine_judge.specs.Fitting.{HasAllEnded}
use Rattle.routine_judge.specs.Order.{begun_of}
use Rattle.routine_judge.proofs.order.fitting.has_all_ended.Given as goal

abbrev pub invariant-loop-entry : goal.invariant-loop-entry
invariant-loop-entry l = HasAllEnded (map begun_of (take l.entry-index l.entries)) l.word
