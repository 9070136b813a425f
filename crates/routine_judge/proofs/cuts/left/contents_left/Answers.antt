use Rattle.std.proofs.Common.{List, ℕ, subst}
use Rattle.std.proofs.lemmas.List.{take_all}
use Rattle.recovery.specs.Boxes.{left_of_line}
use Rattle.routine_judge.proofs.Afters.{left_further}
use Rattle.routine_judge.specs.LeftContents.{HaveSame}
use Rattle.store_trace.specs.History.{history}
use Rattle.routine_judge.proofs.cuts.left.contents_left.Goals as goal

pub loop-start-preserved : goal.loop-start-preserved
loop-start-preserved c =
    left_further c.args.line c.args.low (history c.args.events.now) c.args.contents.now c.loop-start.left c.add_left.new.left c.loop-start.start-index _
    c.loop-start-test.true c.requires.low c.loop-start.invariant c.in_ok-add_left.ensures

pub returns : goal.returns
returns c =
    subst (λ (contents : List (List ℕ)). HaveSame c.loop-start.left (left_of_line c.args.line (history c.args.events.now) contents))
    (take_all c.loop-start.start-index c.args.contents.now c.loop-start-test.false) c.loop-start.invariant
