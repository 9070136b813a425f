use Rattle.machine.proofs.Said.{none_says}
use Rattle.machine.proofs.schedule.reader.items.Goals as goal

pub unreachable-requires : goal.unreachable-requires
unreachable-requires c = none_says c.args.text.now c.loop-word.schedule c.loop-word.rest.now c.in-Some.word.now
    c.in-Some.after.now c.loop-word.invariant c.in-Some.ensures.words c.in_default-item.ensures.none
    c.requires.0 c.requires.1.says
