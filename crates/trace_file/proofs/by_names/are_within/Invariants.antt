use Rattle.std.proofs.Common.{ℕ, ◌<◌, slice_index}
use Rattle.trace_file.proofs.by_names.are_within.Given as goal

abbrev pub invariant-loop-name : goal.invariant-loop-name
invariant-loop-name l = (rank : ℕ) → rank < l.name-index → slice_index l.names rank < l.count
