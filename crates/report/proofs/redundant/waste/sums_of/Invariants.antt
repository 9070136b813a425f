use Rattle.std.proofs.Common.{◌≡◌, take}
use Rattle.std.specs.List.{count_by, zip}
use Rattle.report.specs.Uses.{is_unfenced, is_use, is_vain}
use Rattle.report.proofs.redundant.waste.sums_of.Given as goal

abbrev pub invariant-loop-at : goal.invariant-loop-at
invariant-loop-at l = (l.sums.uses ≡ count_by is_use (take l.at (zip l.traced l.reasons)))
    × (l.sums.vain ≡ count_by is_vain (take l.at (zip l.traced l.reasons)))
    × (l.sums.unfenced ≡ count_by is_unfenced (take l.at (zip l.traced l.reasons)))
