use Rattle.std.proofs.Common.{◌+◌, ◌<◌, refl, rules, ap}
use Rattle.recovery.specs.World.{WorldView, event_count}
use Rattle.recovery.proofs.Serving.{amo_too_many}
use Rattle.recovery.proofs.world.World.combine.Goals as goal

pub returns-then-is_full_at-clause-ok : goal.returns-then-is_full_at-clause-ok
returns-then-is_full_at-clause-ok g c =
    let more : 65536 < c.args.self.now.events + event_count c.args.address = search rules in (
      refl,
      amo_too_many c.args.self.now (g.S.Source.medium c.args.image.now) c.args.op c.args.address c.args.width c.args.operand
          (rw (ap (λ (w : WorldView). w.held) c.self.view_is) at c.in-Ok.ensures.no_fault) more,
    )
