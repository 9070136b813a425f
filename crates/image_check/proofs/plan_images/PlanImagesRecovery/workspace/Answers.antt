use Rattle.image_check.proofs.plan_images.PlanImagesRecovery.workspace.Goals as goal

pub returns : goal.returns
returns g c = λ k within. c.new.ensures (g.I.Images.image c.args.self.now.images.now k)
