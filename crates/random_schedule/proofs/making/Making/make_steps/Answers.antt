use Rattle.std.proofs.Common.{◌≡◌, arith, sym, ◌∙◌}
use Rattle.random_schedule.proofs.Makes.{continues_none, hart_continues, makes_all, makes_some}
use Rattle.random_schedule.proofs.Status.{runs_on}
use Rattle.random_schedule.proofs.making.Making.make_steps.Goals as goal

pub loop-done-init : goal.loop-done-init
loop-done-init c = record { continues = continues_none _; made = omega arith; running = c.requires.running }

pub loop-done-preserved : goal.loop-done-preserved
loop-done-preserved c = record {
  continues = hart_continues _ _ _ c.args.hart c.loop-done._done c.loop-done.invariant.continues c.in_ok-make_step.ensures.ok;
  made = omega (arith, c.in_ok-make_step.ensures.made, c.loop-done.invariant.made);
  running = rw (← c.self.view_is) (runs_on _ _ (rw (← c.self.view_is) at c.in_ok-make_step.ensures.there) (sym c.has_stopped.ensures ∙ c.if-has_stopped.false));
}

pub returns-then-has_stopped-clause-ok : goal.returns-then-has_stopped-clause-ok
returns-then-has_stopped-clause-ok c =
    rw (← c.self.view_is) (makes_some _ c.loop-done.self _ c.args.hart c.loop-done._done c.args.count (omega arith) c.loop-done.invariant.continues
    (rw (← c.self.view_is) at c.in_ok-make_step.ensures.ok) (sym c.has_stopped.ensures ∙ c.if-has_stopped.true))

pub returns-clause-ok : goal.returns-clause-ok
returns-clause-ok c =
    let all : c.loop-done._done ≡ c.args.count = omega arith in
    makes_all _ _ c.args.hart c.args.count c.requires.some (rw all at c.loop-done.invariant.continues)
