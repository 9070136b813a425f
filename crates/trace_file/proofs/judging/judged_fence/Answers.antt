use Rattle.trace_file.proofs.JudgedLemmas.{fence_kept}
use Rattle.trace_file.proofs.judging.judged_fence.Goals as goal

pub returns-in-Some : goal.returns-in-Some
returns-in-Some c = fence_kept c.args.hart c.in-Some.hart c.in-Some.ensures.some
