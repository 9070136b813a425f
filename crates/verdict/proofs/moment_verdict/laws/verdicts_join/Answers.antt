use Rattle.verdict.proofs.GoingOn.{verdicts_on_join}
use Rattle.verdict.proofs.Parts.{verdicts_join}
use Rattle.verdict.proofs.moment_verdict.laws.verdicts_join.Goals as goal

pub returns-clause-rows : goal.returns-clause-rows
returns-clause-rows g c = verdicts_join c.image_sums_join.ensures g.J.Judging.judged

pub returns-clause-on : goal.returns-clause-on
returns-clause-on g c goes_on = verdicts_on_join c.image_sums_join.ensures goes_on g.J.Judging.judged
