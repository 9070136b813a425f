use Rattle.nova_log.proofs.Keeping.{each_one}
use Rattle.std.proofs.Common.{◌≢◌, arith}
use Rattle.image_check.proofs.plan_images.is_without.Goals as goal

pub returns : goal.returns
returns c = λ is. each_one (λ l. l ≢ c.args.line) c.args.lines.now (λ k less. c.loop-one.invariant k (omega arith))
