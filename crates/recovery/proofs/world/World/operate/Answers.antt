use Rattle.std.proofs.Common.{ap, arith, subst}
use Rattle.std.proofs.lemmas.Result.{IfOk-weaker}
use Rattle.hart.specs.declared.need.Request.TheVariants.{Cbo}
use Rattle.isa_table.specs.declared.instruction.CacheOp.{CacheOp}
use Rattle.store_trace.specs.declared.event.Event.{Event}
use Rattle.recovery.specs.World.{IsNoted, IsServed, WorldView}
use Rattle.recovery.specs.declared.world.Served.{Served}
use Rattle.recovery.proofs.Serving.{clean_served, low_clean_served, no_line_served}
use Rattle.recovery.proofs.world.World.operate.Goals as goal

pub returns-in-Ok-clause-ok : goal.returns-in-Ok-clause-ok
returns-in-Ok-clause-ok g c =
    let few = rw (ap (λ (w : WorldView). w.events) c.self.view_is) at c.self.invariant.0 in
    let none = rw (ap (λ (w : WorldView). w.held) c.self.view_is) at c.in-Ok.ensures.no_fault in
    λ op. low_clean_served c.args.self.now (g.S.Source.medium c.args.image.now) op c.args.address few (omega arith) none

pub returns-in-Ok-2-clause-ok : goal.returns-in-Ok-2-clause-ok
returns-in-Ok-2-clause-ok g c =
    let none = rw (ap (λ (w : WorldView). w.held) c.self.view_is) at c.in-Ok-2.ensures.no_fault in
    IfOk-weaker c.mark.result (λ (served : Served). IsNoted c.args.self.now c.mark.new.self c.clean_of.result served)
    (λ (served : Served). (op : CacheOp) → IsServed c.args.self.now c.mark.new.self (g.S.Source.medium c.args.image.now) (Cbo op c.args.address) served)
    (λ served n op. clean_served c.args.self.now c.mark.new.self (g.S.Source.medium c.args.image.now) op c.args.address served (omega arith) none
    (subst (λ (event : Event). IsNoted c.args.self.now c.mark.new.self event served) c.clean_of.ensures.clean n)) c.mark.ensures.ok

pub returns-in-Err-clause-ok : goal.returns-in-Err-clause-ok
returns-in-Err-clause-ok g c =
    let few = rw (ap (λ (w : WorldView). w.events) c.self.view_is) at c.self.invariant.0 in
    let met = rw (ap (λ (w : WorldView). w.held) c.self.view_is) at c.in-Err.ensures.err in
    λ op. no_line_served c.args.self.now (g.S.Source.medium c.args.image.now) op c.args.address _ few met
