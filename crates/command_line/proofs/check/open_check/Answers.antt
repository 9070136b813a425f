-- Each step in its turn.
use Rattle.std.proofs.Common.{Ok, Err, refl, rules}
use Rattle.command_line.proofs.check.open_check.Goals as goal

pub returns-clause-opens : goal.returns-clause-opens
returns-clause-opens g c = record {
  found = Ok c.in_ok-plan.plan;
  between = c.read_plan.new.files;
  first = rw (c.in_ok-plan.was, c.as_str.ensures.value) at c.read_plan.ensures;
  after = record {
    found = Ok c.in_ok-events.events;
    between = c.open_judged.new.files;
    first = rw (c.in_ok-events.was, c.operations.ensures.value) at c.open_judged.ensures.opens;
    after = record { value = record { opens = (refl, refl, refl) }; untouched = refl };
  };
}

pub returns-in_err-events-clause-opens : goal.returns-in_err-events-clause-opens
returns-in_err-events-clause-opens g c = record {
  found = Ok c.in_ok-plan.plan;
  between = c.read_plan.new.files;
  first = rw (c.in_ok-plan.was, c.as_str.ensures.value) at c.read_plan.ensures;
  after = record {
    found = Err c.in_err-events.field-0.0;
    between = c.open_judged.new.files;
    first = rw (c.in_err-events.was, c.operations.ensures.value) at c.open_judged.ensures.opens;
    after = (search (rules, c.from_residual-in_err-events.ensures), refl);
  };
}
