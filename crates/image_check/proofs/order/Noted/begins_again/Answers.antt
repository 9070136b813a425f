use Rattle.std.proofs.Common.{arith}
use Rattle.std.proofs.lemmas.Bool.Decides.{nat_tests}
use Rattle.image_check.proofs.order.Noted.begins_again.Goals as goal

pub returns-else-op-self : goal.returns-else-op-self
returns-else-op-self c = (
  λ t. absurd (grind (arith, nat_tests, t, c.if-op-self.false)),
  λ m. absurd (omega (arith, c.requires.greatest c.args.op m, c.if-op-self.false)),
)
