use Rattle.arguments.proofs.CutTexts.{not_given}
use Rattle.arguments.proofs.cuts.optional_cuts.Goals as goal

pub returns-in_ok-format-in-None-clause-err : goal.returns-in_ok-format-in-None-clause-err
returns-in_ok-format-in-None-clause-err c = λ cuts. not_given _ c.in-Some.text.now cuts c.in-Some.ensures c.in-None.ensures.none
