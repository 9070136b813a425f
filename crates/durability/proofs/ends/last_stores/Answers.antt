use Rattle.std.proofs.Common.{◌+◌, refl}
use Rattle.store_trace.specs.declared.event.Event.{Event}
use Rattle.store_trace.specs.declared.event.Event.TheVariants.{Store}
use Rattle.durability.proofs.Firsts.{event_here}
use Rattle.durability.proofs.Stores.{last_here, last_stays, stores_more}
use Rattle.durability.specs.Stores.{IsLastStore}
use Rattle.durability.proofs.ends.last_stores.Goals as goal
use Rattle.durability.proofs.ends.last_stores.Goals.{in-Store, in_default}

pub loop-at-preserved : goal.loop-at-preserved
loop-at-preserved c =
    let none : Event = Store 0 0 0 0 0 in
    let last : IsLastStore c.args.events.now (c.loop-at.at + 1) c.match-events-at.last = elim c.match-events-at.branch [
      | in-Store w ↦
          let here = event_here c.args.events.now c.loop-at.at none _ c.loop-at-test.true w.in-Store.is in
          rw w.last-is (last_here c.args.events.now c.loop-at.at _ _ _ _ _ here)
      | in_default w ↦
          let here = event_here c.args.events.now c.loop-at.at none _ c.loop-at-test.true refl in
          rw w.last-is (last_stays c.args.events.now c.loop-at.at c.loop-at.last _ here w.in_default.not-Store c.loop-at.invariant.last)
    ] in
    record {
      last = last;
      stores = rw c.in_ok-push-2.ensures.items (stores_more c.args.events.now c.loop-at.at c.match-events-at.last c.loop-at.stores.items last c.loop-at.invariant.stores);
    }
