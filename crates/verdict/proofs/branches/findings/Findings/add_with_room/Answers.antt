use Rattle.std.proofs.Common.{None, refl}
use Rattle.verdict.proofs.Rooming.{less_first}
use Rattle.verdict.proofs.branches.findings.Findings.add_with_room.Goals as goal

pub returns-in_default-least-clause-less : goal.returns-in_default-least-clause-less
returns-in_default-least-clause-less g c =
    less_first c.add.result c.args.numbers.now _ c.args.self.now.least c.add.new.self.least c.args.judged c.args.least None c.in-Some.cause c.in-Some.is c.in_default-least.is refl c.add.ensures.less
