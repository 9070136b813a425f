-- What the session has asked for is what its streams show.
use Rattle.command_line.proofs.Asked.{failure_stays, fault_stays, found_failure, found_fault, found_verdict, verdict_stays}
use Rattle.command_line.proofs.asking.judge_by_replies.Goals as goal

pub returns-in-Ok-clause-same : goal.returns-in-Ok-clause-same
returns-in-Ok-clause-same g c =
    let kept = verdict_stays _ _ _ _ _ _ _ _ _ _ _ _ (rw c.in-Ok.is at c.judge.ensures.ok) in (kept.0, kept.1)

pub returns-in-Ok-clause-finds : goal.returns-in-Ok-clause-finds
returns-in-Ok-clause-finds g c = record {
  finds = found_verdict _ _ _ _ _ c.args.ask.now _ _ _ c.requires.told c.requires.sound c.requires.begins
      (rw (c.requires.start, c.requires.events, c.bounds-first.ensures.first, c.bounds-first.ensures.last, c.in-Ok.is) at c.judge.ensures.ok);
}

pub returns-in-Err-Judge-clause-same : goal.returns-in-Err-Judge-clause-same
returns-in-Err-Judge-clause-same g c =
    let kept = fault_stays _ _ _ _ _ _ _ _ _ _ _ (rw (c.in-Err-Judge.is, c.in-Err-Judge.field-0-is) at c.judge.ensures.err) in (kept.0, kept.1)

pub returns-in-Err-Judge-clause-finds : goal.returns-in-Err-Judge-clause-finds
returns-in-Err-Judge-clause-finds g c = record {
  finds = rw c.from.ensures (found_fault _ _ _ _ _ c.args.ask.now _ _ _ c.requires.told c.requires.sound c.requires.begins
      (rw (c.requires.start, c.requires.events, c.bounds-first.ensures.first, c.in-Err-Judge.is, c.in-Err-Judge.field-0-is) at c.judge.ensures.err));
}

pub returns-in-Err-Answer-clause-same : goal.returns-in-Err-Answer-clause-same
returns-in-Err-Answer-clause-same g c =
    let kept = failure_stays _ _ _ _ _ _ _ _ _ _ (rw (c.in-Err-Answer.is, c.in-Err-Answer.field-0-is) at c.judge.ensures.err) in (kept.0, kept.1)

pub returns-in-Err-Answer-clause-finds : goal.returns-in-Err-Answer-clause-finds
returns-in-Err-Answer-clause-finds g c = record {
  finds = found_failure _ _ _ _ _ c.args.ask.now _ _ _ c.requires.told
      (rw (c.requires.start, c.requires.events, c.in-Err-Answer.is, c.in-Err-Answer.field-0-is) at c.judge.ensures.err);
}
