use Rattle.std.proofs.Common.{◌≡◌, ◌&&◌, ℕ, ◌+◌, nat_lt, subst, arith}
use Rattle.std.specs.Prelude.{nat_le}
use Rattle.routine_judge.proofs.Gathering.{all_taken, same_answers}
use Rattle.routine_judge.proofs.Spanned.{answers_more, found_here}
use Rattle.routine_judge.specs.Gathered.{AreAnswers}
use Rattle.routine_judge.specs.RightAnswers.{of_moments}
use Rattle.routine_judge.proofs.span.SpanAnswers.between.Goals as goal

pub loop-moment-preserved : goal.loop-moment-preserved
loop-moment-preserved c = λ view span.
    let held = c.args.self.now in
    let moment = c.loop-moment.moment in
    answers_more view c.args.from moment c.index.result.now c.loop-moment.right c.add_copy.new.self (omega (arith, c.loop-moment.auto.moment)) c.in_ok-add_copy.ensures.ok
    (found_here view held.first moment held.founds.items c.index.result.now span.founds (omega arith) (omega (arith, c.requires.last)) c.index.ensures)
    (c.loop-moment.invariant view span)

pub returns : goal.returns
returns c = λ view span.
    let from = c.args.from in
    let last = c.args.last in
    let right = c.loop-moment.right in
    let ended : c.loop-moment.moment ≡ last + 1 = omega arith in
    same_answers view (λ i. nat_le from i && nat_lt i (last + 1)) (λ i. nat_le from i && nat_le i last) right (all_taken from last)
    (subst (λ (n : ℕ). AreAnswers view (of_moments (λ i. nat_le from i && nat_lt i n)) right) ended (c.loop-moment.invariant view span))
