-- Each step in its turn.
use Rattle.std.proofs.Common.{Ok, Err, refl, rules}
use Rattle.command_line.proofs.judge.judge_once.Goals as goal

pub returns : goal.returns
returns g c = record {
  found = Ok c.in_ok-verdict.verdict;
  between = c.verdict.new.errors;
  first = rw c.in_ok-verdict.was at c.verdict.ensures;
  after = record {
    found = Ok c.in_ok-answers.answers;
    between = c.verdict.new.errors;
    first = record { value = rw c.in_ok-answers.was at c.answers_of.ensures; untouched = refl };
    after = record {
      found = Ok c.in_ok-why.why;
      between = c.verdict.new.errors;
      first = record { value = rw c.in_ok-why.was at c.why_of.ensures.told; untouched = refl };
      after = record {
        found = Ok c.in_ok-answer.answer;
        between = c.verdict.new.errors;
        first = record { value = rw c.in_ok-answer.was at c.judged_answer.ensures; untouched = refl };
        after = record { answers = refl; notes = rw c.judges_none.ensures at c.note_none.ensures.front };
      };
    };
  };
}

pub returns-in_err-answers : goal.returns-in_err-answers
returns-in_err-answers g c = record {
  found = Ok c.in_ok-verdict.verdict;
  between = c.verdict.new.errors;
  first = rw c.in_ok-verdict.was at c.verdict.ensures;
  after = record {
    found = Err c.in_err-answers.field-0.0;
    between = c.verdict.new.errors;
    first = record { value = rw c.in_err-answers.was at c.answers_of.ensures; untouched = refl };
    after = (search rules, refl);
  };
}

pub returns-in_err-why : goal.returns-in_err-why
returns-in_err-why g c = record {
  found = Ok c.in_ok-verdict.verdict;
  between = c.verdict.new.errors;
  first = rw c.in_ok-verdict.was at c.verdict.ensures;
  after = record {
    found = Ok c.in_ok-answers.answers;
    between = c.verdict.new.errors;
    first = record { value = rw c.in_ok-answers.was at c.answers_of.ensures; untouched = refl };
    after = record {
      found = Err c.in_err-why.field-0.0;
      between = c.verdict.new.errors;
      first = record { value = rw c.in_err-why.was at c.why_of.ensures.told; untouched = refl };
      after = (search rules, refl);
    };
  };
}

pub returns-in_err-answer : goal.returns-in_err-answer
returns-in_err-answer g c = record {
  found = Ok c.in_ok-verdict.verdict;
  between = c.verdict.new.errors;
  first = rw c.in_ok-verdict.was at c.verdict.ensures;
  after = record {
    found = Ok c.in_ok-answers.answers;
    between = c.verdict.new.errors;
    first = record { value = rw c.in_ok-answers.was at c.answers_of.ensures; untouched = refl };
    after = record {
      found = Ok c.in_ok-why.why;
      between = c.verdict.new.errors;
      first = record { value = rw c.in_ok-why.was at c.why_of.ensures.told; untouched = refl };
      after = record {
        found = Err c.in_err-answer.field-0.0;
        between = c.verdict.new.errors;
        first = record { value = rw c.in_err-answer.was at c.judged_answer.ensures; untouched = refl };
        after = (search rules, refl);
      };
    };
  };
}
