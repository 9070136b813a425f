use Rattle.image_check.specs.Verdicts.{judged_at}
use Rattle.verdict.proofs.GoingOn.{verdicts_on_join}
use Rattle.verdict.proofs.Parts.{verdicts_join}
use Rattle.image_check.proofs.laws.verdicts_join.Goals as goal

pub returns-clause-rows : goal.returns-clause-rows
returns-clause-rows c = λ plan start events. verdicts_join c.image_sums_join.ensures (judged_at plan start events) events

pub returns-clause-on : goal.returns-clause-on
returns-clause-on c = λ goes_on plan start events. verdicts_on_join c.image_sums_join.ensures goes_on (judged_at plan start events) events
