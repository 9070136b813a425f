use Rattle.std.proofs.Common.{sym, arith}
use Rattle.lru_cache.proofs.Told.{lines_at, marked_at, marked_none}
use Rattle.lru_cache.proofs.Cache.is_marked.Goals as goal

pub find-requires : goal.find-requires
find-requires c = omega (arith, lines_at _ _ _ _ _ _ c.self.invariant.0 _ c.self.view_is)

pub returns-in-Some-clause-value : goal.returns-in-Some-clause-value
returns-in-Some-clause-value c =
    rw (c.is_marked.ensures.value, c.in-Some.ensures.slot) (sym (marked_at _ _ _ _ _ _ c.self.invariant.0 _ c.self.view_is c.args.k c.args.line c.in-Some.ensures.held))

pub returns-in-None-clause-value : goal.returns-in-None-clause-value
returns-in-None-clause-value c = sym (marked_none _ _ _ _ _ _ c.self.invariant.0 _ c.self.view_is c.args.k c.args.line c.in-None.ensures.none)
