use Rattle.std.proofs.Common.{refl, sym, ◌∙◌}
use Rattle.routine_judge.proofs.Begun.{begun_none, begun_one}
use Rattle.routine_judge.proofs.Marked.{true_of}
use Rattle.routine_judge.proofs.history.moments.any_begins.Goals as goal

pub returns-then-begins : goal.returns-then-begins
returns-then-begins c = (
  λ t. begun_one c.args.events.now c.loop-event.event-index _ c.loop-event-test.true (sym c.begins.ensures ∙ c.if-begins.true),
  λ some. true_of _ refl,
)

pub loop-event-preserved : goal.loop-event-preserved
loop-event-preserved c =
    begun_none c.args.events.now c.loop-event.event-index _ c.loop-event-test.true c.loop-event.invariant (sym c.begins.ensures ∙ c.if-begins.false)
