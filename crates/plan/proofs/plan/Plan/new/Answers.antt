use Rattle.plan.proofs.Headers.{no_operations}
use Rattle.plan.proofs.plan.Plan.new.Goals as goal

pub invariant_of-result : goal.invariant_of-result
invariant_of-result c = rw c.new.ensures.items (no_operations 4 c.args.layout c.args.inodes c.args.pages c.args.journals)
