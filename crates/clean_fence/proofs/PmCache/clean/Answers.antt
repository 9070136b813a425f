use Rattle.std.proofs.Common.{◌≡◌, ◌<◌, true, false, ap, sym, ◌∙◌, arith}
use Rattle.lru_cache.specs.Cache.{CacheView, is_dirty}
use Rattle.clean_fence.specs.Rules.{PmView}
use Rattle.clean_fence.proofs.Crowding.{kept_steps, marked_steps}
use Rattle.clean_fence.proofs.PmCache.clean.Goals as goal

pub returns-then-is_dirty-clause-steps : goal.returns-then-is_dirty-clause-steps
returns-then-is_dirty-clause-steps c =
    let dirty : is_dirty c.self.inside.cache c.args.line ≡ true = sym c.is_dirty.ensures.value ∙ c.if-is_dirty.true in
    let eight : c.args.hart < 8 = omega (arith, c.requires.hart, ap (λ (v : PmView). v.harts) c.self.view_is, c.self.invariant.harts) in
    rw (← c.self.view_is) (marked_steps _ _ _ _ (ap (λ (x : CacheView). x.capacity) c.mark.ensures.changed)
    (ap (λ (x : CacheView). x.copies) c.mark.ensures.changed) (ap (λ (x : CacheView). x.orders) c.mark.ensures.changed)
    dirty c.self.invariant.cache eight)

pub returns-else-is_dirty-clause-steps : goal.returns-else-is_dirty-clause-steps
returns-else-is_dirty-clause-steps c =
    let dry : is_dirty c.self.inside.cache c.args.line ≡ false = sym c.is_dirty.ensures.value ∙ c.if-is_dirty.false in
    rw (← c.self.view_is) (kept_steps _ _ _ dry)
