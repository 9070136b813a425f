use Rattle.std.proofs.Common.{◌≡◌, length}
use Rattle.verdict.specs.Numbers.{number_over}
use Rattle.verdict.proofs.BranchesBranching.{IsFound}
use Rattle.verdict.proofs.branches.run.branch_off.Given as goal

abbrev pub invariant-loop-place : goal.invariant-loop-place
invariant-loop-place g l =
    let r = g.R.Recovery in
    IsFound (r.alike l.recovery) (r.low l.recovery) (r.high l.recovery) (number_over (r.low l.recovery) l.cut.numbers.now) l.cut.place l.cut.decided l.asked l.place l.seen l.found.items
    × (length l.seen ≡ length l.fn.seen)
