-- A rule without sequential runs asks nothing.
use Rattle.verdict_tests.proofs.judging.cases.verdict_over.Goals as goal

pub judge_program-requires-clause-runs : goal.judge_program-requires-clause-runs
judge_program-requires-clause-runs g c = λ κs outlives. c.rule.ensures _ _ _
