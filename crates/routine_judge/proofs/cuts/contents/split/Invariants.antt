use Rattle.std.proofs.Common.{◌≡◌, not, take}
use Rattle.std.specs.Prelude.{filter}
use Rattle.recovery.specs.Images.{same_at}
use Rattle.routine_judge.proofs.cuts.contents.split.Given as goal

abbrev pub invariant-loop-line : goal.invariant-loop-line
invariant-loop-line l =
    (l.alike ≡ filter (λ line. same_at l.bytes 0 l.like line) (take l.line-index l.lines))
    × (l.others ≡ filter (λ line. not (same_at l.bytes 0 l.like line)) (take l.line-index l.lines))
