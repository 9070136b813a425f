use Rattle.arguments.proofs.Spans.{not_given}
use Rattle.arguments.proofs.moments.optional_moments.Goals as goal

pub returns-in_ok-format-in-None-clause-err : goal.returns-in_ok-format-in-None-clause-err
returns-in_ok-format-in-None-clause-err c = λ moments. not_given _ c.in-Some.text.now moments c.in-Some.ensures c.in-None.ensures.none
