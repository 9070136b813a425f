use Rattle.std.proofs.Common.{◌+◌}
use Rattle.std.proofs.lemmas.List.{take_rest}
use Rattle.trace_file.proofs.CutLemmas.{cut_found, cut_missing}
use Rattle.trace_file.proofs.cutting.cut.Goals as goal

pub returns-in-Some-clause-some : goal.returns-in-Some-clause-some
returns-in-Some-clause-some c =
    rw (take_rest c.args.text.now (c.in-Some.place + 1)) (cut_found c.args.stop c.in-Some.place c.args.text.now c.in-Some.ensures)

pub returns-in-None-clause-none : goal.returns-in-None-clause-none
returns-in-None-clause-none c = cut_missing c.args.stop c.args.text.now c.in-None.ensures
