-- Each step in its turn, the last of which has the file's bytes and the events by reference.
use Rattle.std.proofs.Common.{Ok, Err, refl, rules}
use Rattle.command_line.proofs.trace.trace_run.Goals as goal

pub returns : goal.returns
returns g c = record {
  found = Ok c.in_ok-made.made;
  between = c.open_run.new.files;
  first = rw c.in_ok-made.was at c.open_run.ensures.opens;
  after = record {
    found = Ok tt;
    between = c.open_run.new.files;
    first = record { value = rw c.in_ok-demand_whole.was at c.demand_whole.ensures; untouched = refl };
    after = record { value = rw c.deref.ensures.value at c.trace_answer.ensures; untouched = refl };
  };
}

pub returns-in_err-demand_whole : goal.returns-in_err-demand_whole
returns-in_err-demand_whole g c = record {
  found = Ok c.in_ok-made.made;
  between = c.open_run.new.files;
  first = rw c.in_ok-made.was at c.open_run.ensures.opens;
  after = record {
    found = Err c.in_err-demand_whole.field-0.0;
    between = c.open_run.new.files;
    first = record { value = rw c.in_err-demand_whole.was at c.demand_whole.ensures; untouched = refl };
    after = (search (rules, c.from_residual-in_err-demand_whole.ensures), refl);
  };
}
