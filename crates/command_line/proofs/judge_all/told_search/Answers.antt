-- What the reporter heard is what standard error got.
use Rattle.command_line.proofs.StatesTold.{same_stream, told_lines}
use Rattle.command_line.proofs.judge_all.told_search.Goals as goal

pub returns-clause-same : goal.returns-clause-same
returns-clause-same g c = same_stream _ _ _ _ _ _ c.judge_all.ensures.told

pub returns-clause-told : goal.returns-clause-told
returns-clause-told g c = told_lines _ _ _ _ _ _ c.judge_all.ensures.told

pub returns-in_err-judge_all-clause-same : goal.returns-in_err-judge_all-clause-same
returns-in_err-judge_all-clause-same g c = same_stream _ _ _ _ _ _ c.judge_all.ensures.told

pub returns-in_err-judge_all-clause-told : goal.returns-in_err-judge_all-clause-told
returns-in_err-judge_all-clause-told g c = told_lines _ _ _ _ _ _ c.judge_all.ensures.told
