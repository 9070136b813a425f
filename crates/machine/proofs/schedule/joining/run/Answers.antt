use Rattle.std.proofs.Common.{◌∙◌, refl}
use Rattle.machine.proofs.RunLemmas.{run_joined}
use Rattle.machine.proofs.schedule.joining.run.Goals as goal

pub returns : goal.returns
returns c = rw (c.split_at.ensures.front, c.split_at.ensures.back)
    (run_joined c.args.hart c.args.items.now c.unwrap_or.result (c.unwrap_or.ensures ∙ rw c.end.ensures refl))
