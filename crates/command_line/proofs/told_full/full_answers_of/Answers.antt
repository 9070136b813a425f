-- The answers on all full images by the judgement that is asked for.
use Rattle.command_line.proofs.RightTold.{full_told}
use Rattle.command_line.proofs.told_full.full_answers_of.Goals as goal

pub returns : goal.returns
returns c =
    full_told c.args.judge.now c.judgement-judgement.result c.medium-medium.result.now c.trace-trace.result.now.events c.in_ok-full.full
    c.judgement-judgement.ensures.asked c.medium-medium.ensures c.trace-trace.ensures c.in_ok-full.ensures.ok
