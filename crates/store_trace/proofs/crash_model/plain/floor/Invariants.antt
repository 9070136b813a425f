use Rattle.std.proofs.Common.{◌≡◌, reverse, take}
use Rattle.store_trace.specs.Floor.{floor}
use Rattle.store_trace.proofs.crash_model.plain.floor.Given as goal

abbrev pub invariant-loop-at : goal.invariant-loop-at
invariant-loop-at l = l.floor ≡ floor l.line (reverse (take l.at l.steps))
