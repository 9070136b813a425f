-- Each step in its turn.
use Rattle.std.proofs.Common.{Ok, Err, refl, rules}
use Rattle.command_line.proofs.asking.judge_asked.Goals as goal

pub returns : goal.returns
returns g c = record {
  found = Ok c.in_ok-verdict.verdict;
  finds = rw c.in_ok-verdict.was at c.find_verdict.ensures;
  tells = c.tell_verdict.ensures;
}

pub returns-in_err-verdict : goal.returns-in_err-verdict
returns-in_err-verdict g c = record {
  found = Err c.in_err-verdict.field-0.0;
  finds = rw c.in_err-verdict.was at c.find_verdict.ensures;
  tells = (search rules, refl);
}
