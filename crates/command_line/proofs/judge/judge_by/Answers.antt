-- First the verdict, and behind a pass the answers on all full images.
use Rattle.std.proofs.Common.{Ok, Err, refl, rules}
use Rattle.command_line.proofs.judge.judge_by.Goals as goal

pub returns : goal.returns
returns g c = record {
  found = Ok c.in_ok-answer.answer;
  between = c.judge_with.new.errors;
  first = rw c.in_ok-answer.was at c.judge_with.ensures;
  after = record { value = c.with_full_answers.ensures; untouched = refl };
}

pub returns-in_err-answer : goal.returns-in_err-answer
returns-in_err-answer g c = record {
  found = Err c.in_err-answer.field-0.0;
  between = c.judge_with.new.errors;
  first = rw c.in_err-answer.was at c.judge_with.ensures;
  after = (search rules, refl);
}
