use Rattle.std.proofs.Common.{◌≡◌, ℕ, ◌||◌, length, take}
use Rattle.verdict.specs.Branches.{has_line}
use Rattle.verdict.specs.Numbers.{is_flagged}
use Rattle.verdict.proofs.branches.lines.LineSet.insert_asked.Given as goal

abbrev pub invariant-loop-question : goal.invariant-loop-question
invariant-loop-question l =
    ((m : ℕ) → is_flagged m l.self ≡ (is_flagged m l.fn.self || has_line m (take l.question-index l.asked)))
    × (length l.self ≡ length l.fn.self)
