use Rattle.std.proofs.Common.{◌∙◌, sym, arith}
use Rattle.lru_cache.proofs.Told.{lines_at, resident_at, found_is}
use Rattle.lru_cache.proofs.Cache.is_resident.Goals as goal

pub find-requires : goal.find-requires
find-requires c = omega (arith, lines_at _ _ _ _ _ _ c.self.invariant.0 _ c.self.view_is)

pub returns-clause-value : goal.returns-clause-value
returns-clause-value c =
    c.is_some.ensures ∙ (found_is c.self.inside.slots c.args.line c.find.result c.find.ensures.held c.find.ensures.none ∙ sym (resident_at _ _ _ _ _ _ c.self.invariant.0 _ c.self.view_is c.args.line))
