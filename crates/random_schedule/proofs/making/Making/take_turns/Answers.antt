use Rattle.std.proofs.Common.{arith}
use Rattle.std.proofs.lemmas.Result.{err_from_is_err_and}
use Rattle.random_schedule.proofs.Running.{drawn_runs}
use Rattle.random_schedule.proofs.Turns.{stops_by, taken_by, went_on}
use Rattle.random_schedule.proofs.making.Making.take_turns.Goals as goal

pub make_steps-requires-clause-running : goal.make_steps-requires-clause-running
make_steps-requires-clause-running c = rw (← c.self.view_is) (drawn_runs _ _ c.in-Some.hart c.in-Some.ensures.some)

pub loop-self-preserved : goal.loop-self-preserved
loop-self-preserved c = record {
  within = (went_on _ _ _ c.in-Some.hart _ c.args.limit c.self.view_is (omega arith) c.in_ok-make_steps.ensures.ok).0;
  agrees = λ agrees. c.in_ok-make_steps.ensures.ok.continues.agrees (c.loop-self.invariant.agrees agrees);
  taken = λ c' seed has.
      taken_by _ _ _ c.loop-self.numbers _ _ c.in-Some.hart _ c.args.limit c.self.view_is (omega arith) c.in-Some.ensures.some c.in-Some.ensures.state
      c.draw_count-count.ensures.count c.draw_count-count.ensures.state c.in_ok-make_steps.ensures.ok c' seed (c.loop-self.invariant.taken c' seed has);
}

pub returns-in_err-make_steps-clause-err : goal.returns-in_err-make_steps-clause-err
returns-in_err-make_steps-clause-err c =
    let p = err_from_is_err_and c.from_residual.result c.from_residual.ensures.1 in
    rw (p.1, p.2) (λ c' seed has.
    stops_by _ _ c.loop-self.numbers _ c.in-Some.hart _ c.args.limit _ c.self.view_is (omega arith) c.in-Some.ensures.some c.in-Some.ensures.state
    c.draw_count-count.ensures.count c.in_err-make_steps.ensures.err c' seed (c.loop-self.invariant.taken c' seed has))
