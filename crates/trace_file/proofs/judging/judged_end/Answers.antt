use Rattle.trace_file.proofs.JudgedLemmas.{end_kept}
use Rattle.trace_file.proofs.judging.judged_end.Goals as goal

pub returns-in-Some : goal.returns-in-Some
returns-in-Some c = end_kept c.args.hart c.args.op c.in-Some.hart c.in-Some.op c.in-Some.ensures.some
