use Rattle.std.proofs.Common.{subst}
use Rattle.routine_judge.proofs.Unsettled.{long_first}
use Rattle.routine_judge.specs.CutVerdicts.{IsJudgedWith}
use Rattle.routine_judge.specs.declared.cuts.judging.CutCause.{CutCause}
use Rattle.verdict.specs.GoingOn.{IsVerdictOn}
use Rattle.verdict.specs.declared.moment_verdict.verdict.Verdict.{Verdict}
use Rattle.routine_judge.proofs.cuts.row.CutRow.judge.Goals as goal

pub returns-clause-ok : goal.returns-clause-ok
returns-clause-ok g c =
    let row = c.args.self.now in
    let view = row.run.now in
    long_first row.goes_on view c.most.result row.first row.end c.in-TooLong.moment
    (subst (λ (verdict : Verdict CutCause). IsVerdictOn row.goes_on (IsJudgedWith c.most.result view) view.events row.first row.end verdict) c.in-TooLong.is c.in_ok-moments.ensures.ok)
