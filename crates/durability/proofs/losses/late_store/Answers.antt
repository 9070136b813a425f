use Rattle.std.proofs.Common.{◌+◌, ◌<◌, length, refl, subst, sym, arith}
use Rattle.std.specs.Prelude.{Bool, IsTrue}
use Rattle.store_trace.specs.declared.event.Event.{Event}
use Rattle.store_trace.specs.declared.event.Event.TheVariants.{Store}
use Rattle.durability.proofs.Firsts.{event_here}
use Rattle.durability.proofs.Lates.{fate_at, is_late, not_open}
use Rattle.durability.proofs.Opens.{is_false, is_true}
use Rattle.durability.proofs.losses.late_store.Goals as goal
use Rattle.durability.proofs.losses.late_store.Goals.{then-by-hart-via-then-by-hart, then-by-hart-via-else-by-hart+then-not-is_open}

pub returns-then-by-hart : goal.returns-then-by-hart
returns-then-by-hart c =
    let none : Event = Store 0 0 0 0 0 in
    let there : c.args.at < length c.args.events.now = omega arith in
    let here = event_here c.args.events.now c.args.at none _ there c.in-Store.is in
    elim c.then-by-hart.branch [
      | then-by-hart-via-then-by-hart w ↦
          not_open c.args.events.now c.args.moment c.args.hart (c.args.at + 1) c.in-Store.by c.in-Store.line c.in-Store.offset c.in-Store.width c.in-Store.value here
          c.requires.moment (λ e late. w.if-by-hart.true e)
      | then-by-hart-via-else-by-hart+then-not-is_open w ↦
          let fate = fate_at c.args.events.now c.args.fates.now c.args.at none _ c.in-Store.by c.in-Store.line c.in-Store.offset c.in-Store.width c.in-Store.value
          c.requires.fates there c.in-Store.is in
          not_open c.args.events.now c.args.moment c.args.hart (c.args.at + 1) c.in-Store.by c.in-Store.line c.in-Store.offset c.in-Store.width c.in-Store.value here
          c.requires.moment
          (λ e late.
          is_false (subst (λ (b : Bool). IsTrue b) w.if-not-is_open.true ((w.is_open.ensures c.args.events.now c.in-Store.line (c.args.at + 1) fate).1 late)))
    ]

pub returns : goal.returns
returns c =
    let none : Event = Store 0 0 0 0 0 in
    let there : c.args.at < length c.args.events.now = omega arith in
    let here = event_here c.args.events.now c.args.at none _ there c.in-Store.is in
    let fate = fate_at c.args.events.now c.args.fates.now c.args.at none _ c.in-Store.by c.in-Store.line c.in-Store.offset c.in-Store.width c.in-Store.value
    c.requires.fates there c.in-Store.is in
    let late = (c.is_open.ensures c.args.events.now c.in-Store.line (c.args.at + 1) fate).0 (subst (λ (b : Bool). IsTrue b) (sym c.if-not-is_open.false) is_true) in (
      refl,
      is_late c.args.events.now c.args.moment c.args.hart (c.args.at + 1) c.in-Store.line c.in-Store.offset c.in-Store.width c.in-Store.value (rw c.if-by-hart.false at here)
          (omega arith) c.requires.moment late,
      c.cause.ensures c.args.events.now c.in-Store.line (c.args.at + 1) fate,
    )
