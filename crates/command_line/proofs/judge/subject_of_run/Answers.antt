-- Each step in its turn.
use Rattle.std.proofs.Common.{Ok, Err, refl, rules}
use Rattle.command_line.proofs.Started.{cuts_of_run, opened_run, ready_run}
use Rattle.command_line.proofs.judge.subject_of_run.Goals as goal

pub returns-clause-ready : goal.returns-clause-ready
returns-clause-ready g c = record {
  ready = ready_run c.args.command.now.right c.args.run.now c.in_ok-read.read c.in_ok-made.made c.in_ok-start.start c.in_ok-events.events
      c.requires c.in_ok-start.ensures c.in_ok-made.ensures.makes c.in_ok-events.ensures.opens c.in_ok-events.ensures.ready c.in_ok-events.ensures.places;
  routine = c.in_ok-routine.ensures.program;
  of_run = cuts_of_run c.in_ok-made.made c.in_ok-events.events c.args.command.now.cuts c.in_ok-events.ensures.opens;
}

-- it is no failure
pub returns-in_err-events-clause-opens : goal.returns-in_err-events-clause-opens
returns-in_err-events-clause-opens g c = let never = c.in_err-events.ensures.opens.opens in absurd cc

pub returns-clause-opens : goal.returns-clause-opens
returns-clause-opens g c = record {
  found = Ok c.in_ok-read.read;
  between = c.read_run.new.files;
  first = rw c.in_ok-read.was at c.read_run.ensures.reads;
  after = record {
    found = Ok c.in_ok-routine.routine;
    between = c.read_routine.new.files;
    first = rw (c.in_ok-routine.was, c.as_str.ensures.value) at c.read_routine.ensures.reads;
    after = record {
      found = Ok c.in_ok-start.start;
      between = c.read_routine.new.files;
      first = record { value = rw c.in_ok-start.was at c.start_for.ensures; untouched = refl };
      after = record {
        found = Ok c.in_ok-made.made;
        between = c.read_routine.new.files;
        first = record { value = rw c.in_ok-made.was at c.make_run.ensures.makes; untouched = refl };
        after = record {
          found = Ok tt;
          between = c.read_routine.new.files;
          first = record { value = rw c.in_ok-demand_whole.was at c.demand_whole.ensures; untouched = refl };
          after = record { value = record { gives = record { start_is = refl; events_are = opened_run c.in_ok-made.made c.in_ok-events.events c.in_ok-events.ensures.opens; routine_is = refl } }; untouched = refl };
        };
      };
    };
  };
}

pub returns-in_err-demand_whole-clause-opens : goal.returns-in_err-demand_whole-clause-opens
returns-in_err-demand_whole-clause-opens g c = record {
  found = Ok c.in_ok-read.read;
  between = c.read_run.new.files;
  first = rw c.in_ok-read.was at c.read_run.ensures.reads;
  after = record {
    found = Ok c.in_ok-routine.routine;
    between = c.read_routine.new.files;
    first = rw (c.in_ok-routine.was, c.as_str.ensures.value) at c.read_routine.ensures.reads;
    after = record {
      found = Ok c.in_ok-start.start;
      between = c.read_routine.new.files;
      first = record { value = rw c.in_ok-start.was at c.start_for.ensures; untouched = refl };
      after = record {
        found = Ok c.in_ok-made.made;
        between = c.read_routine.new.files;
        first = record { value = rw c.in_ok-made.was at c.make_run.ensures.makes; untouched = refl };
        after = record {
          found = Err c.in_err-demand_whole.field-0.0;
          between = c.read_routine.new.files;
          first = record { value = rw c.in_err-demand_whole.was at c.demand_whole.ensures; untouched = refl };
          after = (search (rules, c.from_residual-in_err-demand_whole.ensures), refl);
        };
      };
    };
  };
}

pub returns-in_err-made-clause-opens : goal.returns-in_err-made-clause-opens
returns-in_err-made-clause-opens g c = record {
  found = Ok c.in_ok-read.read;
  between = c.read_run.new.files;
  first = rw c.in_ok-read.was at c.read_run.ensures.reads;
  after = record {
    found = Ok c.in_ok-routine.routine;
    between = c.read_routine.new.files;
    first = rw (c.in_ok-routine.was, c.as_str.ensures.value) at c.read_routine.ensures.reads;
    after = record {
      found = Ok c.in_ok-start.start;
      between = c.read_routine.new.files;
      first = record { value = rw c.in_ok-start.was at c.start_for.ensures; untouched = refl };
      after = record {
        found = Err c.in_err-made.field-0.0;
        between = c.read_routine.new.files;
        first = record { value = rw c.in_err-made.was at c.make_run.ensures.makes; untouched = refl };
        after = (search (rules, c.from_residual-in_err-made.ensures), refl);
      };
    };
  };
}

pub returns-in_err-routine-clause-opens : goal.returns-in_err-routine-clause-opens
returns-in_err-routine-clause-opens g c = record {
  found = Ok c.in_ok-read.read;
  between = c.read_run.new.files;
  first = rw c.in_ok-read.was at c.read_run.ensures.reads;
  after = record {
    found = Err c.in_err-routine.field-0.0;
    between = c.read_routine.new.files;
    first = rw (c.in_err-routine.was, c.as_str.ensures.value) at c.read_routine.ensures.reads;
    after = (search (rules, c.from_residual-in_err-routine.ensures), refl);
  };
}

pub returns-in_err-start-clause-opens : goal.returns-in_err-start-clause-opens
returns-in_err-start-clause-opens g c = record {
  found = Ok c.in_ok-read.read;
  between = c.read_run.new.files;
  first = rw c.in_ok-read.was at c.read_run.ensures.reads;
  after = record {
    found = Ok c.in_ok-routine.routine;
    between = c.read_routine.new.files;
    first = rw (c.in_ok-routine.was, c.as_str.ensures.value) at c.read_routine.ensures.reads;
    after = record {
      found = Err c.in_err-start.field-0.0;
      between = c.read_routine.new.files;
      first = record { value = rw c.in_err-start.was at c.start_for.ensures; untouched = refl };
      after = (search (rules, c.from_residual-in_err-start.ensures), refl);
    };
  };
}
