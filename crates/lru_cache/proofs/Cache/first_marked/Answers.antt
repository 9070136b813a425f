use Rattle.std.proofs.Common.{sym}
use Rattle.lru_cache.proofs.Told.{marked_low, marked_there, marked_name, first_at, first_none}
use Rattle.lru_cache.proofs.Cache.first_marked.Goals as goal

pub line_of-requires : goal.line_of-requires
line_of-requires c = marked_low _ _ _ _ _ _ c.self.invariant.0 _ c.self.view_is c.args.k _ c.in-Some.ensures.member

pub returns-in-Some-clause-value : goal.returns-in-Some-clause-value
returns-in-Some-clause-value c =
    rw c.line_of.ensures (sym (first_at _ _ _ _ _ _ c.self.invariant.0 _ c.self.view_is c.args.k _ c.in-Some.ensures.value))

pub returns-in-Some-clause-member : goal.returns-in-Some-clause-member
returns-in-Some-clause-member c =
    rw c.line_of.ensures (marked_name _ _ _ _ _ _ c.self.invariant.0 _ c.self.view_is c.args.k _ c.in-Some.ensures.member)

pub returns-in-Some-clause-there : goal.returns-in-Some-clause-there
returns-in-Some-clause-there c =
    rw c.line_of.ensures (marked_there _ _ _ _ _ _ c.self.invariant.0 _ c.self.view_is c.args.k _ c.in-Some.ensures.member)

pub returns-in-None-clause-value : goal.returns-in-None-clause-value
returns-in-None-clause-value c = sym (first_none _ _ _ _ _ _ c.self.invariant.0 _ c.self.view_is c.args.k c.in-None.ensures.value)
