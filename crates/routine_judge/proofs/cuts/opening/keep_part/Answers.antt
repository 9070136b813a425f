use Rattle.routine_judge.proofs.Keepings.{keeps_start, keeps_step}
use Rattle.routine_judge.proofs.cuts.opening.keep_part.Goals as goal

pub loop-question-init : goal.loop-question-init
loop-question-init c = keeps_start c.args.images.now c.args.questions.now c.args.others.now.items c.requires

pub loop-question-preserved : goal.loop-question-preserved
loop-question-preserved c =
    keeps_step c.args.images.now c.loop-question.images c.split.new.self c.args.questions.now c.loop-question.question-index _ c.args.others.now.items
    c.loop-question.others.items c.push_rest.new.boxes.items c.in_ok-rest.rest c.loop-question-test.true c.loop-question.invariant
    c.in_ok-rest.ensures.kept c.in_ok-rest.ensures.first c.in_ok-rest.ensures.count c.in_ok-rest.ensures.rest c.in_ok-push_rest.ensures
