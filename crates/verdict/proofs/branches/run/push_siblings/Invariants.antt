use Rattle.std.proofs.Common.{◌≡◌, ◌+◌, ◌-◌, ◌≤◌, ◌++◌}
use Rattle.verdict.specs.Queue.{is_new_behind, siblings}
use Rattle.verdict.proofs.branches.run.push_siblings.Given as goal

abbrev pub invariant-loop-below : goal.invariant-loop-below
invariant-loop-below g l =
    let r = g.R.Recovery in
    (l.own ≤ l.below) × (l.below ≤ l.below-end)
    × (l.found.items ≡ l.fn.found.items ++ siblings (is_new_behind (r.alike l.recovery) (r.low l.recovery) l.fn.question l.before l.own) l.cut.place l.decided l.fn.question.line
    (l.own + 1) (l.below - l.own))
