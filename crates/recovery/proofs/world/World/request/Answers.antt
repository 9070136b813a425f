use Rattle.std.proofs.lemmas.Result.{IfOk-weaker}
use Rattle.hart.specs.declared.need.Request.TheVariants.{Cbo}
use Rattle.isa_table.specs.declared.instruction.CacheOp.{CacheOp}
use Rattle.recovery.specs.World.{IsServed}
use Rattle.recovery.specs.declared.world.Served.{Served}
use Rattle.recovery.proofs.world.World.request.Goals as goal

pub returns-in-Cbo-clause-ok : goal.returns-in-Cbo-clause-ok
returns-in-Cbo-clause-ok g c =
    rw c.in-Cbo.is (IfOk-weaker c.operate.result
    (λ (served : Served). (op : CacheOp) → IsServed c.args.self.now c.operate.new.self (g.S.Source.medium c.args.image.now) (Cbo op c.in-Cbo.address) served)
    (λ (served : Served). IsServed c.args.self.now c.operate.new.self (g.S.Source.medium c.args.image.now) (Cbo c.in-Cbo.op c.in-Cbo.address) served)
    (λ served h. h c.in-Cbo.op) c.operate.ensures.ok)
