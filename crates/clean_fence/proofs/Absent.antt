-- An eviction of a line that isn't resident leaves all as it is.
use Rattle.std.proofs.Common.{◌≡◌, ℕ, [], true, false, List, map, arith, refl, ap, sym, ◌∙◌}
use Rattle.std.specs.Prelude.{slice_set, Bool, Option, Some, None, is_some}
use Rattle.std.proofs.lemmas.Bool.Decides.{nat_tests}
use Rattle.index_list.specs.Lists.{without}
use Rattle.index_list.proofs.Members.{without_absent}
use Rattle.line_memory.specs.Lines.{line_at}
use Rattle.lru_cache.specs.Cache.{CacheView, IsCache, IsOver, is_resident, shown, after_eviction, written_back}
use Rattle.lru_cache.specs.Order.{LineOrders, order_after_drop, order_after_write_back, recent_in, set_of}
use Rattle.clean_fence.specs.Rules.{PmView, IsSound}
use Rattle.clean_fence.proofs.Views.{with_parts}
use Rattle.lru_cache.proofs.Places.{put_same, map_without_absent}

not_from : (a b : Bool) → (a ≡ true → b ≡ true) → b ≡ false → a ≡ false
not_from true b f n = let t : true ≡ false = sym (f refl) ∙ n in cc
not_from false b f n = refl

no_copy : (o : Option (List ℕ)) → is_some o ≡ false → o ≡ None
no_copy None h = refl
no_copy (Some x) h = cc

orders_same : (c : CacheView) (line : ℕ) → IsCache c → is_resident c line ≡ false →
    order_after_drop line (order_after_write_back line c.orders) ≡ c.orders
orders_same c line k out =
    let dirty : without line c.orders.dirty ≡ c.orders.dirty = without_absent line c.orders.dirty (not_from _ _ (k.dirty line) out) in
    let marked : map (without line) c.orders.marked ≡ c.orders.marked =
    map_without_absent line c.orders.marked (λ h. not_from _ _ (k.marked h line) (not_from _ _ (k.dirty line) out)) in
    let recent : slice_set c.orders.recency (set_of line) (without line (recent_in c.orders (set_of line))) ≡ c.orders.recency =
    put_same [] _ c.orders.recency (set_of line)
    (sym (without_absent line (recent_in c.orders (set_of line)) (grind (arith, nat_tests, k.recent line (set_of line), out)))) in
    ap (λ (x : List ℕ). record c.orders { dirty = x; marked = map (without line) c.orders.marked; recency = slice_set c.orders.recency (set_of line) (without line (recent_in c.orders (set_of line))) }) dirty
    ∙ ap (λ (x : List (List ℕ)). record c.orders { marked = x; recency = slice_set c.orders.recency (set_of line) (without line (recent_in c.orders (set_of line))) }) marked
    ∙ ap (λ (x : List (List ℕ)). record c.orders { recency = x }) recent

pub cache_same : (c : CacheView) (line : ℕ) → IsCache c → is_resident c line ≡ false → after_eviction line c ≡ c
cache_same c line k out =
    let copies : slice_set c.copies line None ≡ c.copies = put_same None None c.copies line (no_copy _ out) in
    let leaving : slice_set c.leaving line false ≡ c.leaving =
    put_same false false c.leaving line (not_from _ _ (k.leaves line) (not_from _ _ (k.dirty line) out)) in
    ap (λ (x : List (Option (List ℕ))). record (after_eviction line c) { copies = x }) copies
    ∙ ap (λ (x : List Bool). record c { leaving = x; orders = order_after_drop line (order_after_write_back line c.orders) }) leaving
    ∙ ap (λ (x : LineOrders). record c { orders = x }) (orders_same c line k out)

pub lines_same : (c : CacheView) (lines : List (List ℕ)) (line : ℕ) → IsCache c → IsOver c lines → is_resident c line ≡ false →
    written_back line c lines ≡ lines
lines_same c lines line k o out =
    put_same [] (line_at (shown c lines) line) lines line (sym (o.clean line (not_from _ _ (k.dirty line) out)))

pub absent_same : (v : PmView) (cache : CacheView) (lines : List (List ℕ)) (line : ℕ) → cache ≡ after_eviction line v.cache →
    lines ≡ written_back line v.cache v.lines → IsSound v → is_resident v.cache line ≡ false → with_parts v cache lines ≡ v
absent_same v cache lines line e f k out =
    ap (λ (x : CacheView). with_parts v x lines) (e ∙ cache_same v.cache line k.cache out)
    ∙ ap (λ (x : List (List ℕ)). with_parts v v.cache x) (f ∙ lines_same v.cache v.lines line k.cache k.over out)
