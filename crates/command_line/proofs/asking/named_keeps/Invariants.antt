use Rattle.std.proofs.Common.{◌≡◌, map, take}
use Rattle.command_line.specs.Asking.{named_kept}
use Rattle.command_line.specs.Traces.{name_in}
use Rattle.command_line.proofs.asking.named_keeps.Given as goal

abbrev pub invariant-loop-one : goal.invariant-loop-one
invariant-loop-one l = l.named.items ≡ map (named_kept (name_in l.events)) (take l.one-index l.kept)
