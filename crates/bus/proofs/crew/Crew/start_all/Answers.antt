use Rattle.std.proofs.Common.{rules, ◌≡◌, ◌∙◌, ◌++◌, ◌∷◌, [], append_assoc, ap, sym}
use Rattle.bus.proofs.Crews.{at_some}
use Rattle.bus.specs.Crews.{BeganView, badge_of}
use Rattle.bus.specs.Driving.{badge}
use Rattle.bus.proofs.crew.Crew.start_all.Goals as goal

pub loop-seat-preserved : goal.loop-seat-preserved
loop-seat-preserved g c =
    let i = c.loop-seat.invariant in
    let next : c.loop-seat.seat-iterator.rest.items ≡ c.in-Some.seat ∷ c.next.new.self.rest.items = search rules in (
      append_assoc c.loop-seat.yielded (c.in-Some.seat ∷ []) c.next.new.self.rest.items ∙ (ap (λ l. c.loop-seat.yielded ++ l) (sym next) ∙ i.0),
      c.start_next-child.ensures.stops,
      c.add.ensures.crew c.loop-seat.yielded c.in-Some.seat i.2
          (at_some (λ (b : BeganView). (badge_of b ≡ badge c.in-Some.seat) × (b.place.table ≡ c.args.word.now.table)) c.start_next-child.result c.start_next-child.ensures.child),
      c.add.ensures.seats ∙ i.3,
      c.add.ensures.stops ∙ i.4,
      c.add.ensures.lowest ∙ i.5,
    )
