use Rattle.std.proofs.Common.{◌≡◌, ◌∙◌, ◌++◌, List, map, take, drop, length, ap}
use Rattle.crash_image.proofs.Slices.{written}
use Rattle.crash_image.proofs.Totaling.{after_clean, after_fence, after_store}
use Rattle.crash_image.specs.Totals.{cleaned_line, fenced_line, still_free, with_store}
use Rattle.crash_image.specs.declared.totals.FreeLine.{FreeLine}
use Rattle.crash_image.proofs.totals.take.Goals as goal

pub returns-in_ok-store-in-Store : goal.returns-in_ok-store-in-Store
returns-in_ok-store-in-Store c = λ p e.
    rw c.in-Store.is (
    c.in_ok-store-in-Store.ensures
    ∙ ap (λ (fs : List FreeLine). with_store c.in-Store.line fs) e
    ∙ after_store c.in-Store.line c.in-Store.offset c.in-Store.width c.in-Store.value p)

pub returns-in-Clean : goal.returns-in-Clean
returns-in-Clean c = λ p e.
    let same : take c.args.free.now.len (c.clean.new.free ++ drop (length c.clean.new.free) c.args.free.now.items) ≡ c.clean.new.free =
    written c.args.free.now.items c.clean.new.free c.args.free.now.len c.args.free.now.ok.0
    (c.clean.auto.free ∙ ap (λ (fs : List FreeLine). length fs) c.deref_mut.ensures.value) in
    rw c.in-Clean.is (
    same ∙ c.clean.ensures
    ∙ ap (λ (fs : List FreeLine). map (cleaned_line c.in-Clean.hart c.in-Clean.line) fs) (c.deref_mut.ensures.value ∙ e)
    ∙ after_clean c.in-Clean.hart c.in-Clean.line p (rw c.in-Clean.is at c.requires.event))

pub returns-in-Fence : goal.returns-in-Fence
returns-in-Fence c = λ p e.
    rw c.in-Fence.is (
    c.fence.ensures
    ∙ ap (λ (fs : List FreeLine). still_free (map (fenced_line c.in-Fence.hart) fs)) e
    ∙ after_fence c.in-Fence.hart p (rw c.in-Fence.is at c.requires.event))
