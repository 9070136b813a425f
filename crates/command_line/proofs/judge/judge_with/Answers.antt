-- With power cuts in recovery where these are asked for.
use Rattle.command_line.proofs.judge.judge_with.Goals as goal

pub returns-in-None : goal.returns-in-None
returns-in-None g c = rw c.in-None.is c.judge_once.ensures

pub returns-in-Some : goal.returns-in-Some
returns-in-Some g c = rw c.in-Some.is c.judge_cuts.ensures
