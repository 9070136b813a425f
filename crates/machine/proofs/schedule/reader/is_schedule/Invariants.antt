use Rattle.std.proofs.Common.{◌<◌, ◌^◌, length}
use Rattle.machine.proofs.Judged.{IsSummed}
use Rattle.machine.proofs.schedule.reader.is_schedule.Given as goal

abbrev pub invariant-loop-word : goal.invariant-loop-word
invariant-loop-word l = IsSummed l.text l.total l.rest × (l.total < 2 ^ 32)

abbrev pub decreases-loop-word : goal.decreases-loop-word
decreases-loop-word l = length l.rest
