use Rattle.std.proofs.Common.{◌≡◌, take}
use Rattle.nova_log.proofs.volume.log.Log.equals.Given as goal

abbrev pub invariant-loop-index : goal.invariant-loop-index
invariant-loop-index l = take l.index l.entry-items ≡ take l.index l.other-inside.entries.items
