use Rattle.std.proofs.Common.{rules, ◌∙◌}
use Rattle.unfinished.proofs.Loops.{cause_push}
use Rattle.unfinished.proofs.unfinished.note_operations.Goals as goal

pub loop-number-preserved : goal.loop-number-preserved
loop-number-preserved c =
    cause_push c.args.events.now c.args.numbers.now c.deref.result.now c.loop-number.number-index _ _ c.args.causes.now.items
    c.loop-number.causes.items _ c.loop-number-test.true (c.deref.ensures.value ∙ c.in_ok-begun.ensures) c.cause_among-cause.ensures
    c.loop-number.invariant (search rules)
