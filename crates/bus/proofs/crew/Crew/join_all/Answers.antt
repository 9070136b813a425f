use Rattle.std.proofs.Common.{rules, ◌≡◌, ◌∙◌, ◌++◌, ◌∷◌, [], List, length, append_assoc, append-nil, ap, sym, subst}
use Rattle.workers.proofs.StopWordClosing.{next_of}
use Rattle.bus.proofs.Crews.{none_left}
use Rattle.bus.specs.Crews.{AreJoined, BeganView}
use Rattle.bus.proofs.crew.Crew.join_all.Goals as goal

pub loop-child-preserved : goal.loop-child-preserved
loop-child-preserved g c =
    let i = c.loop-child.invariant in
    let next : c.loop-child.child-iterator.rest.items ≡ c.in-Some.child ∷ c.next.new.self.rest.items = search rules in (
      append_assoc c.loop-child.yielded (c.in-Some.child ∷ []) c.next.new.self.rest.items ∙ (ap (λ l. c.loop-child.yielded ++ l) (sym next) ∙ i.0),
      (λ table words. c.add.ensures.joined table c.loop-child.yielded c.args.self.ran.is_whole c.in-Some.child (i.1 table words) c.join-driven.ensures
          (λ held. next_of (λ (b : BeganView). b.place.table ≡ table) c.args.self.children.items c.loop-child.yielded c.loop-child.child-iterator.rest.items
          c.next.new.self.rest.items c.in-Some.child (words held) i.0 next)),
      c.add.ensures.mine ∙ i.2,
    )

pub returns-clause-joined : goal.returns-clause-joined
returns-clause-joined g c = λ table words.
    let i = c.loop-child.invariant in
    let steps = c.in-None.ensures.steps.0 in
    let left : length c.loop-child.child-iterator.rest.items ≡ 0 = search rules in
    let none = none_left c.loop-child.child-iterator.rest.items left in
    let whole : c.loop-child.yielded ≡ c.args.self.children.items =
    sym (append-nil c.loop-child.yielded) ∙ (ap (λ l. c.loop-child.yielded ++ l) (sym none) ∙ i.0) in
    subst (λ (l : List BeganView). AreJoined table l c.args.self.ran.is_whole c.loop-child.ran.seats.items c.loop-child.ran.stops.items c.loop-child.ran.lowest c.loop-child.ran.is_whole) whole
    (i.1 table words)
