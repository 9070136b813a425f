use Rattle.std.proofs.Common.{length}
use Rattle.trace_file.proofs.PlaceLemmas.{IsPlaced}
use Rattle.trace_file.proofs.place_words.places.Given as goal

abbrev pub invariant-loop-behind : goal.invariant-loop-behind
invariant-loop-behind l = IsPlaced l.text l.rest

abbrev pub decreases-loop-behind : goal.decreases-loop-behind
decreases-loop-behind l = length l.rest
