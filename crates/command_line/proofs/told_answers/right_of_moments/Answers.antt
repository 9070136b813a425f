-- The right answers of the moment by the judgement that is asked for.
use Rattle.std.proofs.Common.{◌∙◌, ap, sym}
use Rattle.routine_judge.specs.Rules.{JudgementView}
use Rattle.command_line.proofs.RightTold.{moments_told}
use Rattle.command_line.proofs.told_answers.right_of_moments.Goals as goal

pub right_answers-requires-clause-own : goal.right_answers-requires-clause-own
right_answers-requires-clause-own c =
    ap (λ (v : JudgementView). v.right) c.judgement-judgement.ensures.asked ∙ sym c.requires.rule.right ∙ c.requires.own

pub returns : goal.returns
returns c =
    moments_told c.args.judge.now c.judgement-judgement.result c.medium-medium.result.now c.trace-trace.result.now.events c.args.moment c.in_ok-right.right.items
    c.judgement-judgement.ensures.asked c.medium-medium.ensures c.trace-trace.ensures (sym c.requires.rule.right ∙ c.requires.own) c.in_ok-right.ensures.ok
