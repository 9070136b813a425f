use Rattle.std.proofs.Common.{◌≡◌, reverse, take}
use Rattle.store_trace.specs.Floor.{cleaned}
use Rattle.store_trace.proofs.crash_model.plain.cleaned.Given as goal

abbrev pub invariant-loop-at : goal.invariant-loop-at
invariant-loop-at l = l.before ≡ cleaned l.line l.hart (reverse (take l.at l.steps))
