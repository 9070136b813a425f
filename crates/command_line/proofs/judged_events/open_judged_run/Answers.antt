-- Each step in its turn.
use Rattle.std.proofs.Common.{Ok, Err, refl, rules}
use Rattle.command_line.proofs.judged_events.open_judged_run.Goals as goal

pub returns-in_err-demand_whole-clause-opens : goal.returns-in_err-demand_whole-clause-opens
returns-in_err-demand_whole-clause-opens g c = record {
  found = Ok c.in_ok-made.made;
  between = c.open_run.new.files;
  first = rw c.in_ok-made.was at c.open_run.ensures.opens;
  after = record {
    found = Err c.in_err-demand_whole.field-0.0;
    between = c.open_run.new.files;
    first = record { value = rw c.in_err-demand_whole.was at c.demand_whole.ensures; untouched = refl };
    after = (search (rules, c.from_residual-in_err-demand_whole.ensures), refl);
  };
}
