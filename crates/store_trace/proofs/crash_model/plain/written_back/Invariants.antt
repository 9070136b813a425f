use Rattle.std.proofs.Common.{◌≡◌, reverse, take}
use Rattle.store_trace.specs.WrittenBack.{written_back}
use Rattle.store_trace.proofs.crash_model.plain.written_back.Given as goal

abbrev pub invariant-loop-at : goal.invariant-loop-at
invariant-loop-at l = l.back ≡ written_back l.line (reverse (take l.at l.steps))
