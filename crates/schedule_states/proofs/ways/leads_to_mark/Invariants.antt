use Rattle.std.specs.Prelude.{◌<◌, ℕ, slice_index_or}
use Rattle.schedule_states.specs.Ways.{IsMarked}
use Rattle.schedule_states.proofs.ways.leads_to_mark.Given as goal

abbrev pub invariant-loop-hart : goal.invariant-loop-hart
invariant-loop-hart l = (h : ℕ) → h < l.hart → IsMarked l.marks (slice_index_or l.to h 0) → ⊥
