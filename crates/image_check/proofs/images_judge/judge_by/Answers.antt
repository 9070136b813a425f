use Rattle.image_check.proofs.images_judge.judge_by.Goals as goal

pub open_images-requires-clause-fits : goal.open_images-requires-clause-fits
open_images-requires-clause-fits g c κs within = λ k inside. c.forget.ensures (g.I.Images.image c.args.judged.now.images.now k)
