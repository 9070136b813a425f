use Rattle.std.proofs.Common.{◌≡◌, take}
use Rattle.report.specs.Told.{spaced_in}
use Rattle.trace_file.specs.Ranks.{copies_of}
use Rattle.report.proofs.told.spaced.Given as goal

abbrev pub invariant-loop-text : goal.invariant-loop-text
invariant-loop-text l = copies_of l.all.items ≡ spaced_in l.with_steps (take l.text-index l.texts)
