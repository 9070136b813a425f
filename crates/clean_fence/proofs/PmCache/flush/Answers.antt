use Rattle.std.proofs.Common.{◌≡◌, ◌<◌, true, false, ap, ◌∙◌, arith}
use Rattle.std.proofs.lemmas.Bool.Decides.{nat_tests}
use Rattle.lru_cache.specs.Cache.{CacheView, is_dirty}
use Rattle.clean_fence.specs.Rules.{PmView}
use Rattle.clean_fence.proofs.Crowding.{dropped_steps, marked_steps}
use Rattle.clean_fence.proofs.PmCache.flush.Goals as goal

pub returns-then-not-is_dirty-clause-steps : goal.returns-then-not-is_dirty-clause-steps
returns-then-not-is_dirty-clause-steps c =
    let dry : is_dirty c.self.inside.cache c.args.line ≡ false = grind (arith, nat_tests, c.is_dirty.ensures.value, c.if-not-is_dirty.true) in
    rw (← c.self.view_is) (dropped_steps _ _ _ _ c.drop_clean.ensures.changed (c.drop_clean.ensures.shown _ c.self.invariant.over) dry)

pub returns-clause-steps : goal.returns-clause-steps
returns-clause-steps c =
    let dirty : is_dirty c.self.inside.cache c.args.line ≡ true = grind (arith, nat_tests, c.is_dirty.ensures.value, c.if-not-is_dirty.false) in
    let eight : c.args.hart < 8 = omega (arith, c.requires.hart, ap (λ (v : PmView). v.harts) c.self.view_is, c.self.invariant.harts) in
    rw (← c.self.view_is) (marked_steps _ _ _ _
    (ap (λ (x : CacheView). x.capacity) c.mark_leaving.ensures.changed ∙ ap (λ (x : CacheView). x.capacity) c.mark.ensures.changed)
    (ap (λ (x : CacheView). x.copies) c.mark_leaving.ensures.changed ∙ ap (λ (x : CacheView). x.copies) c.mark.ensures.changed)
    (ap (λ (x : CacheView). x.orders) c.mark_leaving.ensures.changed ∙ ap (λ (x : CacheView). x.orders) c.mark.ensures.changed)
    dirty c.self.invariant.cache eight)
