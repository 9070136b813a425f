use Rattle.std.proofs.Common.{◌+◌, sym, ◌∙◌}
use Rattle.store_trace.specs.declared.event.Event.{Event}
use Rattle.store_trace.specs.declared.event.Event.TheVariants.{Store}
use Rattle.durability.proofs.Firsts.{event_here}
use Rattle.durability.proofs.Lates.{inside, outside_at}
use Rattle.durability.proofs.ends.outside_store.Goals as goal

pub returns-then-has : goal.returns-then-has
returns-then-has c =
    let none : Event = Store 0 0 0 0 0 in
    let here = event_here c.args.events.now c.args.at none _ c.requires.there c.in-Store.is in
    let event = rw c.in-Store.is at (c.requires.each c.args.at none c.requires.there) in
    inside c.args.events.now c.args.under_way.now (c.args.at + 1) c.in-Store.hart c.in-Store.line c.in-Store.offset c.in-Store.width c.in-Store.value here event.0
    c.requires.under_way (sym c.has.ensures ∙ c.if-has.true)

pub returns : goal.returns
returns c =
    let none : Event = Store 0 0 0 0 0 in
    let here = event_here c.args.events.now c.args.at none _ c.requires.there c.in-Store.is in
    let event = rw c.in-Store.is at (c.requires.each c.args.at none c.requires.there) in
    outside_at c.args.events.now c.args.under_way.now (c.args.at + 1) c.in-Store.hart c.in-Store.line c.in-Store.offset c.in-Store.width c.in-Store.value c.late_store.result
    here event.0 c.requires.under_way (sym c.has.ensures ∙ c.if-has.false) c.late_store.ensures
