use Rattle.trace_file.proofs.JudgedLemmas.{clean_kept}
use Rattle.trace_file.proofs.judging.judged_clean.Goals as goal

pub returns : goal.returns
returns c = clean_kept c.args.hart c.args.line c.in-Some.hart c.in-Some-narrow.line c.in-Some.ensures.some c.in-Some-narrow.ensures.some
