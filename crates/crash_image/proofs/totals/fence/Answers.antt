use Rattle.std.proofs.Common.{◌≡◌, ◌∙◌, ◌++◌, nat_lt, List, map, take, drop, length, ap, rules}
use Rattle.std.proofs.lemmas.Fn.{filter_same}
use Rattle.crash_image.proofs.Slices.{written}
use Rattle.crash_image.specs.Totals.{fenced_line, still_free}
use Rattle.crash_image.specs.declared.totals.FreeLine.{FreeLine}
use Rattle.crash_image.proofs.totals.fence.Goals as goal

pub returns : goal.returns
returns c =
    let same : take c.args.free.now.len (c.fence_each.new.free ++ drop (length c.fence_each.new.free) c.args.free.now.items) ≡ c.fence_each.new.free =
    written c.args.free.now.items c.fence_each.new.free c.args.free.now.len c.args.free.now.ok.0
    (c.fence_each.auto.free ∙ ap (λ (fs : List FreeLine). length fs) c.deref_mut.ensures.value) in
    filter_same _ (λ (f : FreeLine). nat_lt 0 f.above) _ (λ x b f' k. search rules) _ _ c.retain.ensures.filtered
    ∙ ap (λ (fs : List FreeLine). still_free fs)
    (same ∙ c.fence_each.ensures ∙ ap (λ (fs : List FreeLine). map (fenced_line c.args.hart) fs) c.deref_mut.ensures.value)
