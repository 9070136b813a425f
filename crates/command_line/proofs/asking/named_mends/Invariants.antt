use Rattle.std.proofs.Common.{◌≡◌, map, take}
use Rattle.command_line.specs.Asking.{named_mend}
use Rattle.command_line.specs.Traces.{name_in}
use Rattle.command_line.proofs.asking.named_mends.Given as goal

abbrev pub invariant-loop-mend : goal.invariant-loop-mend
invariant-loop-mend l = l.named.items ≡ map (named_mend (name_in l.events)) (take l.mend-index l.mends)
