-- Each step in its turn.
use Rattle.std.proofs.Common.{Ok, Err, refl, rules}
use Rattle.command_line.proofs.asking.tell_verdict.Goals as goal

pub returns : goal.returns
returns g c = record {
  found = Ok c.in_ok-why.why;
  between = c.args.errors.now;
  first = record { value = rw c.in_ok-why.was at c.why_of.ensures.told; untouched = refl };
  after = record {
    found = Ok c.in_ok-named.named;
    between = c.args.errors.now;
    first = record { value = rw c.in_ok-named.was at c.named_why.ensures.names; untouched = refl };
    after = record {
      found = Ok c.in_ok-answer.answer;
      between = c.args.errors.now;
      first = record { value = rw c.in_ok-answer.was at c.asked_answer.ensures; untouched = refl };
      after = record { answers = refl; notes = rw c.judges_none.ensures at c.note_none.ensures.front };
    };
  };
}

pub returns-in_err-named : goal.returns-in_err-named
returns-in_err-named g c = record {
  found = Ok c.in_ok-why.why;
  between = c.args.errors.now;
  first = record { value = rw c.in_ok-why.was at c.why_of.ensures.told; untouched = refl };
  after = record {
    found = Err c.in_err-named.field-0.0;
    between = c.args.errors.now;
    first = record { value = rw c.in_err-named.was at c.named_why.ensures.names; untouched = refl };
    after = (search rules, refl);
  };
}

pub returns-in_err-answer : goal.returns-in_err-answer
returns-in_err-answer g c = record {
  found = Ok c.in_ok-why.why;
  between = c.args.errors.now;
  first = record { value = rw c.in_ok-why.was at c.why_of.ensures.told; untouched = refl };
  after = record {
    found = Ok c.in_ok-named.named;
    between = c.args.errors.now;
    first = record { value = rw c.in_ok-named.was at c.named_why.ensures.names; untouched = refl };
    after = record {
      found = Err c.in_err-answer.field-0.0;
      between = c.args.errors.now;
      first = record { value = rw c.in_err-answer.was at c.asked_answer.ensures; untouched = refl };
      after = (search rules, refl);
    };
  };
}
