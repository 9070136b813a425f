use Rattle.std.proofs.Common.{◌≡◌, length}
use Rattle.machine_tests.proofs.routines.samples.image_of.Given as goal

abbrev pub invariant-loop-place : goal.invariant-loop-place
invariant-loop-place l = length l.image ≡ 512
