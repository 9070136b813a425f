use Rattle.std.proofs.Common.{◌+◌, ap, ◌∙◌, arith}
use Rattle.every_schedule.proofs.Asking.{stepped}
use Rattle.every_schedule.proofs.Counting.{step_counted}
use Rattle.every_schedule.proofs.follower.Follower.step.Goals as goal

pub invariant_of-self-in-Ok : goal.invariant_of-self-in-Ok
invariant_of-self-in-Ok c = record {
  few = omega (arith, c.if-self-ge-MOST_STEPS.false);
  count = step_counted c.args.self.now.schedule c.push_step.new.self c.args.hart c.in-Ok.ensures.ok ∙ ap (λ n. n + 1) c.args.self.now.count;
}

pub returns : goal.returns
returns c = λ s k come. stepped s c.args.self.now _ c.args.hart k come c.in_ok-step.ensures.ok.runs c.in-Ok.ensures.ok
