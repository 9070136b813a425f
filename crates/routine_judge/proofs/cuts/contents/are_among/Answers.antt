use Rattle.std.proofs.Common.{List, ℕ, subst}
use Rattle.std.specs.List.{Contains}
use Rattle.std.specs.Prelude.{All}
use Rattle.std.proofs.lemmas.List.{take_all}
use Rattle.std.proofs.lemmas.List.Elements.{All-more}
use Rattle.routine_judge.proofs.cuts.contents.are_among.Goals as goal

pub loop-line-preserved : goal.loop-line-preserved
loop-line-preserved c =
    All-more (Contains c.args.others.now) c.args.lines.now c.loop-line.line-index _ c.loop-line-test.true c.loop-line.invariant
    (c.is_among.ensures.0 c.if-not-is_among.false)

pub returns : goal.returns
returns c = λ all.
    subst (λ (lines : List (List ℕ)). All (Contains c.args.others.now) lines) (take_all c.loop-line.line-index c.args.lines.now c.loop-line-test.false) c.loop-line.invariant
