use Rattle.std.proofs.lemmas.Option.{MatchOption-at_none}
use Rattle.routine_judge.proofs.Entering.{nothing_there, other_there}
use Rattle.routine_judge.proofs.order.precedence.Precedence.entry_of.Goals as goal
use Rattle.routine_judge.proofs.order.precedence.Precedence.entry_of.Goals.{in_default-via-in-Some+else-found-op, in_default-via-in_default}

pub returns-in_default : goal.returns-in_default
returns-in_default c = elim c.in_default.branch [
  | in_default-via-in-Some+else-found-op w ↦
      other_there c.args.self.now.entries.items c.deref-2.result.now c.deref.result.now c.place_of.result c.args.op w.in-Some.found.now
      c.deref-2.ensures.value c.deref.ensures.value w.in-Some.ensures.lookup.3.0 w.in-Some.ensures.lookup.1 w.if-found-op.false c.place_of.ensures.place
  | in_default-via-in_default w ↦
      nothing_there c.args.self.now.entries.items c.deref-2.result.now c.deref.result.now c.place_of.result c.args.op
      c.deref-2.ensures.value c.deref.ensures.value (MatchOption-at_none _ _ w.in_default.is c.get.ensures.lookup.3) c.place_of.ensures.place
]
