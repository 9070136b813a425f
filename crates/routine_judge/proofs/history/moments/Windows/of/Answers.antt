use Rattle.std.proofs.Common.{List, length, ap, arith}
use Rattle.store_trace.specs.declared.event.Event.{Event}
use Rattle.routine_judge.proofs.Telling.{few_ends}
use Rattle.routine_judge.proofs.history.moments.Windows.of.Goals as goal

pub until_of-moment-requires-clause-ends : goal.until_of-moment-requires-clause-ends
until_of-moment-requires-clause-ends c = λ op.
    few_ends c.events-events.result.now op _ (omega (arith, c.events-events.ensures.limit, ap (λ (es : List Event). length es) c.events-events.ensures.value)) (c.in_ok-ends.ensures op)
