use Rattle.std.proofs.Common.{◌≡◌, map, take}
use Rattle.command_line.specs.ImageFiles.{ranked_entry}
use Rattle.command_line.proofs.image.ranked_entries.Given as goal

abbrev pub invariant-loop-entry : goal.invariant-loop-entry
invariant-loop-entry l = l.ranked.items ≡ map (ranked_entry l.names) (take l.entry-index l.entries)
