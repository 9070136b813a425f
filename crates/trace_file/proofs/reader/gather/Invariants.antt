use Rattle.std.proofs.Common.{◌≤◌, length}
use Rattle.trace_file.proofs.Drafting.{IsReading}
use Rattle.trace_file.proofs.reader.gather.Given as goal

abbrev pub invariant-lines : goal.invariant-lines
invariant-lines l = IsReading l.text l.lines.items l.count l.kept l.rest × (l.count ≤ 65536)

abbrev pub decreases-lines : goal.decreases-lines
decreases-lines l = length l.rest
