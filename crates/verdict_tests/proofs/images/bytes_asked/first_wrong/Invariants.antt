-- The opener stays one for a line.
use Rattle.std.proofs.Common.{◌≡◌, length}
use Rattle.verdict_tests.proofs.images.bytes_asked.first_wrong.Given as goal

abbrev pub invariant-loop-place : goal.invariant-loop-place
invariant-loop-place g l = length l.opener ≡ 1
