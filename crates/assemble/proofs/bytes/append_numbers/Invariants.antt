use Rattle.std.proofs.Common.{◌≡◌, ◌++◌, take}
use Rattle.std.specs.List.{flat_map}
use Rattle.assemble.specs.SourceLines.{number_bytes}
use Rattle.assemble.proofs.bytes.append_numbers.Given as goal

abbrev pub invariant-loop-value : goal.invariant-loop-value
invariant-loop-value l = l.bytes.items ≡ l.initial.bytes.items ++ flat_map (number_bytes l.width) (take l.value-index l.values)
