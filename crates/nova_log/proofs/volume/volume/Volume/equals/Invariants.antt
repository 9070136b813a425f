use Rattle.std.proofs.Common.{◌≡◌, take}
use Rattle.nova_log.proofs.volume.volume.Volume.equals.Given as goal

abbrev pub invariant-loop-index : goal.invariant-loop-index
invariant-loop-index l = take l.index l.log-items ≡ take l.index l.other-inside.logs.items
