use Rattle.std.proofs.Common.{sym, ◌∙◌, inl, inr, arith}
use Rattle.lru_cache.specs.Order.{set_of}
use Rattle.lru_cache.proofs.Told.{evicts_none, evicts_line, evicts_nothing, room_from_nothing, evicted_resident, evicted_below, evicted_low, lines_at, capacity_at, count_at}
use Rattle.lru_cache.proofs.Cache.victim.Goals as goal
use Rattle.lru_cache.proofs.Cache.victim.Goals.{then-is_resident-via-then-is_resident, then-is_resident-via-else-is_resident+then-self}

pub returns-then-is_resident-clause-value : goal.returns-then-is_resident-clause-value
returns-then-is_resident-clause-value c = elim c.then-is_resident.branch [
  | then-is_resident-via-then-is_resident w ↦ sym (evicts_none _ _ _ _ _ _ c.self.invariant.0 _ c.self.view_is c.args.line (inl (sym c.is_resident.ensures.value ∙ w.if-is_resident.true)))
  | then-is_resident-via-else-is_resident+then-self w ↦ sym (evicts_none _ _ _ _ _ _ c.self.invariant.0 _ c.self.view_is c.args.line (inr w.if-self.true))
]

pub returns-then-is_resident-clause-room : goal.returns-then-is_resident-clause-room
returns-then-is_resident-clause-room c = elim c.then-is_resident.branch [
  | then-is_resident-via-then-is_resident w ↦ λ gone. let both = sym gone ∙ (sym c.is_resident.ensures.value ∙ w.if-is_resident.true) in cc
  | then-is_resident-via-else-is_resident+then-self w ↦ λ _. omega (arith, w.if-self.true, capacity_at _ _ _ _ _ _ c.self.invariant.0 _ c.self.view_is, count_at _ _ _ _ _ _ c.self.invariant.0 _ c.self.view_is)
]

pub line_of-requires : goal.line_of-requires
line_of-requires c = evicted_low _ _ _ _ _ _ c.self.invariant.0 _ c.self.view_is (set_of c.args.line) _ c.in-Some.ensures

pub returns-in-Some-clause-value : goal.returns-in-Some-clause-value
returns-in-Some-clause-value c =
    rw c.line_of.ensures (sym (evicts_line _ _ _ _ _ _ c.self.invariant.0 _ c.self.view_is c.args.line _ (sym c.is_resident.ensures.value ∙ c.if-is_resident.false) c.if-self.false c.in-Some.ensures))

pub returns-in-Some-clause-resident : goal.returns-in-Some-clause-resident
returns-in-Some-clause-resident c = rw c.line_of.ensures (evicted_resident _ _ _ _ _ _ c.self.invariant.0 _ c.self.view_is (set_of c.args.line) _ c.in-Some.ensures)

pub returns-in-Some-clause-there : goal.returns-in-Some-clause-there
returns-in-Some-clause-there c = rw (c.line_of.ensures, lines_at _ _ _ _ _ _ c.self.invariant.0 _ c.self.view_is) (evicted_below _ _ _ _ _ _ c.self.invariant.0 _ c.self.view_is (set_of c.args.line) _ c.in-Some.ensures)

pub returns-in-None-clause-value : goal.returns-in-None-clause-value
returns-in-None-clause-value c =
    sym (evicts_nothing _ _ _ _ _ _ c.self.invariant.0 _ c.self.view_is c.args.line (sym c.is_resident.ensures.value ∙ c.if-is_resident.false) c.if-self.false c.in-None.ensures)

pub returns-in-None-clause-room : goal.returns-in-None-clause-room
returns-in-None-clause-room c = λ _. room_from_nothing _ _ _ _ _ _ c.self.invariant.0 _ c.self.view_is (set_of c.args.line) c.in-None.ensures
