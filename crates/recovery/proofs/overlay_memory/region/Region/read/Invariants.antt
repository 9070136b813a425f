use Rattle.std.proofs.Common.{◌≡◌, ℕ, ◌<◌, slice_get}
use Rattle.recovery.specs.Regions.{bytes_of}
use Rattle.recovery.proofs.overlay_memory.region.Region.read.Given as goal

abbrev pub invariant-loop-at : goal.invariant-loop-at
invariant-loop-at l = (k : ℕ) → k < l.at → slice_get l.into k ≡ bytes_of l.self k
