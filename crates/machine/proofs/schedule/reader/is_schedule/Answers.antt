use Rattle.machine.proofs.Judged.{past_limit, unsaid_here}
use Rattle.machine.proofs.schedule.reader.is_schedule.Goals as goal

pub returns-in_default-item-clause-no : goal.returns-in_default-item-clause-no
returns-in_default-item-clause-no c = λ _. unsaid_here c.args.text.now c.loop-word.total c.loop-word.rest.now c.in-Some.word.now
    c.in-Some.after.now c.loop-word.invariant.0 c.in-Some.ensures.words c.in_default-item.ensures.none

pub returns-in_default-checked_add-clause-no : goal.returns-in_default-checked_add-clause-no
returns-in_default-checked_add-clause-no c = λ _. past_limit c.args.text.now c.loop-word.total c.loop-word.rest.now c.in-Some.word.now
    c.in-Some.after.now c.in-Some-item.item c.loop-word.invariant.0 c.in-Some.ensures.words c.in-Some-item.ensures.some
    (rw (← c.steps_in.ensures) c.in_default-checked_add.ensures)
