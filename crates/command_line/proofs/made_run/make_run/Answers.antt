use Rattle.std.proofs.Common.{◌∙◌, ℕ, ap}
use Rattle.command_line.specs.Failures.{failure_of_run}
use Rattle.command_line.proofs.made_run.make_run.Goals as goal

pub returns-in-Err-clause-makes : goal.returns-in-Err-clause-makes
returns-in-Err-clause-makes c = record {
  makes = record {
    fault = c.in-Err.fault;
    told = c.failure_of_run.ensures ∙ ap (λ (lines : ℕ). failure_of_run c.args.command.now.machine.harts lines c.in-Err.fault) c.lines-lines.ensures.count;
    found = rw c.setup-setup.ensures at c.in-Err.ensures.err;
  };
}
