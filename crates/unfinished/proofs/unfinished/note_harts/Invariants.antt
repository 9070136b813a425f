use Rattle.std.proofs.Common.{◌≡◌}
use Rattle.unfinished.proofs.Loops.{causes_below}
use Rattle.unfinished.proofs.unfinished.note_harts.Given as goal

abbrev pub invariant-loop-hart : goal.invariant-loop-hart
invariant-loop-hart l = l.causes.items ≡ causes_below l.harts l.hart
