use Rattle.std.proofs.Common.{◌≡◌, take}
use Rattle.nova_log.proofs.volume.volume.Volume.copy.Given as goal

abbrev pub invariant-loop-log : goal.invariant-loop-log
invariant-loop-log l = l.logs.items ≡ take l.log-index l.log-items
