use Rattle.trace_file.proofs.JudgedLemmas.{mark_kept}
use Rattle.trace_file.proofs.judging.mark.Goals as goal

pub returns-clause-some : goal.returns-clause-some
returns-clause-some c = mark_kept c.args.hart c.args.op c.in_ok-hart.hart c.in_ok-op.op c.in_ok-hart.ensures.some c.in_ok-op.ensures.some
