use Rattle.std.proofs.Common.{◌≤◌, List, length, subst}
use Rattle.std.proofs.lemmas.Result.{on_ok_weaker}
use Rattle.store_trace.specs.declared.event.Event.{Event}
use Rattle.image_check.proofs.Noting.{note_at, note_last}
use Rattle.image_check.proofs.judge.note_next.Goals as goal

pub returns-in-Some : goal.returns-in-Some
returns-in-Some c =
    on_ok_weaker c.note.result
    (note_at c.args.plan.now.operations c.args.outcomes.now.settled c.note.new.self.settled c.args.trace.now.events c.events.result.now c.args.moment c.in-Some.event.now
    c.args.outcomes.now.under_way.items c.note.new.self.under_way.items c.events.ensures.value c.in-Some.ensures.lookup.3.0 c.in-Some.ensures.lookup.1 c.requires) c.note.ensures.outcomes

pub returns-in-None : goal.returns-in-None
returns-in-None c = λ start h.
    note_last c.args.plan.now.operations start c.args.outcomes.now.settled c.args.trace.now.events c.args.moment c.args.outcomes.now.under_way.items
    (subst (λ (es : List Event). length es ≤ c.args.moment) c.events.ensures.value c.in-None.ensures.lookup.3) h
