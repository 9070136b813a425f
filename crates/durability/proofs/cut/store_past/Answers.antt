use Rattle.std.proofs.Common.{◌≡◌, true, get_or, sym, ◌∙◌}
use Rattle.store_trace.specs.declared.event.Event.{Event}
use Rattle.store_trace.specs.declared.event.Event.TheVariants.{Store}
use Rattle.durability.proofs.Tellings.{store_found}
use Rattle.durability.specs.Cuts.{is_store_of}
use Rattle.durability.proofs.cut.store_past.Goals as goal

pub returns-then-count-number : goal.returns-then-count-number
returns-then-count-number c =
    let none : Event = Store 0 0 0 0 0 in
    let test : is_store_of c.args.line (get_or c.args.events.now c.loop-at.at none) ≡ true =
    sym c.stores_line.ensures ∙ c.if-not-stores_line.false in
    store_found c.args.events.now c.args.moment c.args.line c.args.number c.loop-at.at none test c.loop-at-test.true c.requires.moment
    (sym c.if-count-number.true ∙ c.loop-at.invariant.count)
