use Rattle.bus.proofs.EventMade.{none_numbered, one_numbered}
use Rattle.bus.proofs.runs.Runs.number.Goals as goal

pub returns-then-not-makes_event-clause-ok : goal.returns-then-not-makes_event-clause-ok
returns-then-not-makes_event-clause-ok c =
    none_numbered c.makes_event.result _ _ _ c.if-not-makes_event.true (c.makes_event.ensures c.args.hart)

pub returns-in-Ok-clause-ok : goal.returns-in-Ok-clause-ok
returns-in-Ok-clause-ok c =
    one_numbered c.makes_event.result _ _ _ _ c.if-not-makes_event.false (c.makes_event.ensures c.args.hart) c.in-Ok.ensures.items
