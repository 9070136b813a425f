use Rattle.std.proofs.Common.{◌≡◌, ◌↔◌, ◌⊎◌, ℕ, Contains, take}
use Rattle.routine_judge.proofs.outside.replies.Replies.list.Given as goal

abbrev pub invariant-loop-line : goal.invariant-loop-line
invariant-loop-line l = ((line : ℕ) → Contains l.self.lines.items line ↔ (Contains l.fn.self.lines.items line ⊎ Contains (take l.line-index l.lines) line))
    × (l.self.known.items ≡ l.fn.self.known.items)
