-- First the sequential runs, and then the verdict by all of them, or the bound that they pass.
use Rattle.std.proofs.Common.{Ok, Err, Some, refl, rules}
use Rattle.command_line.specs.declared.failure.Failure.TheVariants.{Memory}
use Rattle.command_line.proofs.Started.{few_started, rule_of_runs}
use Rattle.command_line.proofs.judge.judge_atomic.Goals as goal

pub runs_for-requires-clause-few : goal.runs_for-requires-clause-few
runs_for-requires-clause-few g c =
    λ κs within. few_started c.args.judge.now.events c.setup_in-start.result.now (rw (c.requires.atomic, c.setup_in-start.ensures) at c.requires.open.ready.started)

pub judge_by-requires-clause-rule : goal.judge_by-requires-clause-rule
judge_by-requires-clause-rule g c =
    λ κs within. rule_of_runs c.args.judge.now _ _ c.setup_in-start.ensures c.requires.open.ready c.requires.atomic refl refl
    (rw (c.setup_in-start.ensures, c.in-All.is) at c.in_ok-found.ensures)

pub returns-in-All : goal.returns-in-All
returns-in-All g c = record {
  found = Ok (Some c.in_ok-found.found);
  between = c.args.errors.now;
  first = record { value = record { finds = (c.requires.atomic, c.in_ok-found.ensures) }; untouched = refl };
  after = rw c.in-All.is c.judge_by.ensures;
}

pub returns-in_ok-text-in-TooMany : goal.returns-in_ok-text-in-TooMany
returns-in_ok-text-in-TooMany g c = record {
  found = Ok (Some c.in_ok-found.found);
  between = c.args.errors.now;
  first = record { value = record { finds = (c.requires.atomic, c.in_ok-found.ensures) }; untouched = refl };
  after = rw c.in-TooMany.is (record { value = search rules; untouched = refl });
}

pub returns-in_err-text-in-TooMany : goal.returns-in_err-text-in-TooMany
returns-in_err-text-in-TooMany g c = record {
  found = Ok (Some c.in_ok-found.found);
  between = c.args.errors.now;
  first = record { value = record { finds = (c.requires.atomic, c.in_ok-found.ensures) }; untouched = refl };
  after = rw c.in-TooMany.is (record { value = search rules; untouched = refl });
}

pub returns-in_err-found : goal.returns-in_err-found
returns-in_err-found g c = record {
  found = Err Memory;
  between = c.args.errors.now;
  first = record { value = record { finds = (c.requires.atomic, refl) }; untouched = refl };
  after = (search (rules, c.from_residual.ensures), refl);
}
