use Rattle.std.proofs.Common.{◌≡◌, ◌<◌, ◌+◌, Some, None, length, get_or, refl, sym, ◌∙◌, arith}
use Rattle.store_trace.specs.declared.event.Event.{Event}
use Rattle.store_trace.specs.declared.event.Event.TheVariants.{Store}
use Rattle.durability.proofs.Firsts.{event_here}
use Rattle.durability.proofs.MendLists.{first_mark_here, no_mark, no_mark_by, no_mark_more}
use Rattle.durability.specs.Mends.{mark_by}
use Rattle.durability.specs.Numbered.{event_at}
use Rattle.durability.proofs.mend.first_mark.Goals as goal

pub loop-at-init : goal.loop-at-init
loop-at-init c = no_mark (mark_by c.args.begins) c.args.events.now c.args.behind c.args.behind (omega arith)

pub loop-at-preserved : goal.loop-at-preserved
loop-at-preserved c =
    let none : Event = Store 0 0 0 0 0 in
    let there : c.loop-at.at < length c.args.events.now = omega arith in
    no_mark_more (mark_by c.args.begins) c.args.events.now c.args.behind c.loop-at.at (get_or c.args.events.now c.loop-at.at none)
    (event_here c.args.events.now c.loop-at.at none _ there refl) (sym c.in_default.ensures) c.loop-at.invariant

pub returns-in-Some : goal.returns-in-Some
returns-in-Some c =
    let none : Event = Store 0 0 0 0 0 in
    let there : c.loop-at.at < length c.args.events.now = omega arith in
    first_mark_here (mark_by c.args.begins) c.args.events.now c.args.behind c.args.moment c.loop-at.at c.in-Some.operation
    (get_or c.args.events.now c.loop-at.at none) c.loop-at.auto.at c.loop-at-test.true
    (event_here c.args.events.now c.loop-at.at none _ there refl) (sym c.in-Some.ensures) c.loop-at.invariant

pub returns : goal.returns
returns c =
    no_mark_by (mark_by c.args.begins) c.args.events.now c.args.behind c.args.moment c.loop-at.at c.loop-at-test.false c.loop-at.invariant
