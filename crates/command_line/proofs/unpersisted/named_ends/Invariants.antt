use Rattle.std.proofs.Common.{◌≡◌, map, take}
use Rattle.command_line.specs.Persisting.{named_end}
use Rattle.command_line.specs.Traces.{name_in}
use Rattle.command_line.proofs.unpersisted.named_ends.Given as goal

abbrev pub invariant-loop-end : goal.invariant-loop-end
invariant-loop-end l = l.named.items ≡ map (named_end (name_in l.opened)) (take l.end-index l.ends)
