use Rattle.std.proofs.Common.{◌∙◌, sym, false, arith}
use Rattle.std.proofs.lemmas.List.{get_or_default}
use Rattle.lru_cache.proofs.Told.{lines_at, slot_low, leaving_at, leaving_none}
use Rattle.lru_cache.proofs.Cache.is_leaving.Goals as goal

pub find-requires : goal.find-requires
find-requires c = omega (arith, lines_at _ _ _ _ _ _ c.self.invariant.0 _ c.self.view_is)

pub returns-in-Some-clause-value : goal.returns-in-Some-clause-value
returns-in-Some-clause-value c =
    let low = slot_low _ _ _ _ _ _ c.self.invariant.0 _ c.self.view_is c.args.line _ c.in-Some.ensures.held c.in-Some.ensures.slot in
    c.index.ensures ∙ get_or_default c.self.inside.leaving.items c.in-Some.slot c.index.result.now false (omega (arith, low, c.self.invariant.0.flagged)) ∙ rw c.in-Some.ensures.slot (sym (leaving_at _ _ _ _ _ _ c.self.invariant.0 _ c.self.view_is c.args.line))

pub returns-in-None-clause-value : goal.returns-in-None-clause-value
returns-in-None-clause-value c = sym (leaving_none _ _ _ _ _ _ c.self.invariant.0 _ c.self.view_is c.args.line c.in-None.ensures.none)
