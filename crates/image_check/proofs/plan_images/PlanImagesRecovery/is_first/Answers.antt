use Rattle.std.proofs.Common.{sym}
use Rattle.verdict.proofs.Numbering.{numbers_first}
use Rattle.image_check.proofs.plan_images.PlanImagesRecovery.is_first.Goals as goal

pub returns : goal.returns
returns g c = sym (numbers_first c.args.asked (g.I.Images.low c.args.self.now.images.now c.args.asked.line) c.args._number c.requires.number.0)
