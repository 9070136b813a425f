use Rattle.std.proofs.Common.{◌≡◌, ◌++◌, length}
use Rattle.trace_file.specs.Spaced.{spaced_words}
use Rattle.trace_file.proofs.spaced.spaced_words.Given as goal

abbrev pub invariant-words : goal.invariant-words
invariant-words l = l.words.items ++ spaced_words l.with_steps l.rest ≡ spaced_words l.with_steps l.place

abbrev pub decreases-words : goal.decreases-words
decreases-words l = length l.rest
