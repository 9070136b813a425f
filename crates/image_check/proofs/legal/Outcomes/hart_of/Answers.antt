use Rattle.std.proofs.lemmas.Option.{MatchOption-at_none}
use Rattle.image_check.proofs.Rising.{hart_found, hart_none, hart_other}
use Rattle.image_check.proofs.legal.Outcomes.hart_of.Goals as goal

pub returns-in-Some : goal.returns-in-Some
returns-in-Some c = λ h hart.
    hart_found c.args.self.now.under_way.items c.deref.result.now c.place_of.result c.args.op hart c.in-Some.found.now c.deref.ensures.value
    c.in-Some.ensures.lookup.3.0 c.in-Some.ensures.lookup.1 c.if-found-op.true c.place_of.ensures.place h

pub returns-in_default : goal.returns-in_default
returns-in_default c = λ h hart.
    hart_other c.args.self.now.under_way.items c.deref.result.now c.place_of.result c.args.op hart c.in-Some.found.now c.deref.ensures.value
    c.in-Some.ensures.lookup.3.0 c.in-Some.ensures.lookup.1 c.if-found-op.false c.place_of.ensures.place h

pub returns-in_default-2 : goal.returns-in_default-2
returns-in_default-2 c = λ h hart.
    hart_none c.args.self.now.under_way.items c.deref.result.now c.place_of.result c.args.op hart c.deref.ensures.value
    (MatchOption-at_none _ _ c.in_default.is c.get.ensures.lookup.3) c.place_of.ensures.place h
