use Rattle.std.proofs.Common.{◌≡◌, map, take}
use Rattle.verdict.specs.Contents.{with_contents}
use Rattle.verdict.proofs.moment_verdict.contents.all_contents.Given as goal

abbrev pub invariant-loop-line : goal.invariant-loop-line
invariant-loop-line g l =
    let r = g.R.Recovery in
    l.all.items ≡ map (with_contents (r.alike l.recovery) (r.low l.recovery) (r.high l.recovery)) (take l.line-index l.lines)
