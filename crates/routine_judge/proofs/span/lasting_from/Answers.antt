use Rattle.routine_judge.proofs.Lasting.{lasting_told, unchanged_told}
use Rattle.routine_judge.proofs.span.lasting_from.Goals as goal

pub returns-then-not-changes : goal.returns-then-not-changes
returns-then-not-changes c = λ view same tells. unchanged_told view c.args.at c.args.changes tells c.if-not-changes.true

pub returns : goal.returns
returns c = λ view same tells.
    lasting_told view c.args.events.now c.args.at c.in-Some.hart c.free_from.result _ c.args.changes same c.requires.there tells c.if-not-changes.false c.in-Some.ensures
    c.free_from.ensures
