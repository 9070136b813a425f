use Rattle.arguments.proofs.Lines.{no_code}
use Rattle.arguments.proofs.values.code_word.Goals as goal

pub returns-in_ok-format-in-None-clause-err : goal.returns-in_ok-format-in-None-clause-err
returns-in_ok-format-in-None-clause-err c = λ meaning asked.
    no_code c.in-Some.text.now _ meaning c.in-Some.ensures c.in-None.ensures asked
