use Rattle.std.proofs.Common.{arith}
use Rattle.std.proofs.lemmas.Result.{err_from_is_err_and}
use Rattle.machine.proofs.Walks.{comes_all, comes_more, comes_self, halts_more}
use Rattle.machine.proofs.schedule.walking.walk.Goals as goal

pub loop-item-init : goal.loop-item-init
loop-item-init g c = comes_self g.S.Stepper.makes g.met.S.Stepper.no_step g.met.S.Stepper.more_steps _ _ _

pub returns-in_err-walk_item-clause-err : goal.returns-in_err-walk_item-clause-err
returns-in_err-walk_item-clause-err g c =
    let p = err_from_is_err_and c.from_residual.result c.from_residual.ensures.1 in
    rw (← c.items-items.ensures, p.1, p.2) (halts_more g.S.Stepper.makes g.met.S.Stepper.no_step g.met.S.Stepper.more_steps g.S.Stepper.halts _ _ _ _ _ _ _ _
    c.loop-item.invariant c.in_err-walk_item.ensures.err)

pub loop-item-preserved : goal.loop-item-preserved
loop-item-preserved g c =
    comes_more g.S.Stepper.makes g.met.S.Stepper.no_step g.met.S.Stepper.more_steps _ _ _ _ _ _ _ c.loop-item.invariant c.in_ok-walk_item.ensures.ok

pub returns-clause-ok : goal.returns-clause-ok
returns-clause-ok g c =
    rw (← c.items-items.ensures) (comes_all g.S.Stepper.makes g.met.S.Stepper.no_step g.met.S.Stepper.more_steps _ _ _ _ c.loop-item.item c.loop-item.steps
    (omega arith) c.loop-item.invariant)
