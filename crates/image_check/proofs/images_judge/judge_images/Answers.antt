use Rattle.std.proofs.lemmas.Result.{IfOk-weaker}
use Rattle.image_check.proofs.Stating.{stated}
use Rattle.image_check.proofs.images_judge.judge_images.Goals as goal

pub returns-clause-ok : goal.returns-clause-ok
returns-clause-ok g c =
    let images = c.args.images.now in
    IfOk-weaker c.judge_by.result _ _
    (λ verdict is. stated c.args.plan.now.operations c.args.state.now (g.I.Images.lines images) (g.I.Images.image images) (g.I.Images.low images) (g.I.Images.high images) verdict is)
    c.judge_by.ensures.ok
