-- None of the numbers before is alike, so those from here on decide.
use Rattle.std.proofs.Common.{◌≡◌, ◌-◌, ◌≤◌}
use Rattle.verdict.specs.Branches.{is_first, none_of}
use Rattle.verdict_tests.specs.AskedAgain.{two_alike}
use Rattle.verdict_tests.proofs.images.bytes_asked.TwiceRecovery.is_first.Given as goal

abbrev pub invariant-loop-lower : goal.invariant-loop-lower
invariant-loop-lower l =
    (l.lower ≤ l.number) × (is_first (two_alike l.self.first l.self.later l.asked) 0 l.number ≡ none_of (λ m. two_alike l.self.first l.self.later l.asked m l.number) l.lower (l.number - l.lower))
