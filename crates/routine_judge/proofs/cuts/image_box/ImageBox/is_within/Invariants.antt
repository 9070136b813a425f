use Rattle.std.proofs.Common.{ℕ, ◌<◌}
use Rattle.std.specs.List.{Contains}
use Rattle.std.specs.Prelude.{All}
use Rattle.recovery.specs.Boxes.{contents_of}
use Rattle.routine_judge.proofs.cuts.image_box.ImageBox.is_within.Given as goal

abbrev pub invariant-loop-line : goal.invariant-loop-line
invariant-loop-line l = (m : ℕ) → m < l.line → All (Contains (contents_of l.other m)) (contents_of l.self m)
