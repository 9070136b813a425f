use Rattle.std.proofs.Common.{refl}
use Rattle.std.proofs.lemmas.Result.{err_from_is_err_and}
use Rattle.random_schedule.proofs.Makes.{continues_step, room_made}
use Rattle.random_schedule.proofs.making.Making.make_step.Goals as goal

pub returns-clause-ok : goal.returns-clause-ok
returns-clause-ok c =
    let noted = rw (c.stored_line-line.ensures, c.events.ensures.value, c.events-before.ensures.value) at c.in_ok-note_store.ensures in
    rw (← c.self.view_is) (continues_step _ _ c.args.hart c.in_ok-step.ensures.runs (rw (← c.self.view_is) at c.requires.running) c.in_ok-push_step.ensures.ok refl noted)

pub returns-in_err-push_step-clause-err : goal.returns-in_err-push_step-clause-err
returns-in_err-push_step-clause-err c =
    let p = err_from_is_err_and c.from_residual-in_err-push_step.result c.from_residual-in_err-push_step.ensures.1 in
    rw (p.1, p.2, ← c.self.view_is) (room_made _ _ c.args.hart c.in_ok-step.ensures.runs (rw (← c.self.view_is) at c.requires.running) c.step.ensures.limit)
