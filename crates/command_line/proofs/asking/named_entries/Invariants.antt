use Rattle.std.proofs.Common.{◌≡◌, map, take}
use Rattle.command_line.specs.Asking.{named_entry}
use Rattle.command_line.specs.Traces.{name_in}
use Rattle.command_line.proofs.asking.named_entries.Given as goal

abbrev pub invariant-loop-entry : goal.invariant-loop-entry
invariant-loop-entry l = l.named.items ≡ map (named_entry (name_in l.events)) (take l.entry-index l.entries)
