use Rattle.std.proofs.Common.{refl}
use Rattle.crash_image.proofs.Tallying.{after_store, after_clean}
use Rattle.crash_image.proofs.bounds.scan_back_over.Goals as goal

pub returns-in-Store : goal.returns-in-Store
returns-in-Store c = λ whole rest left s. after_store whole rest left _ _ c.in-Store.line c.in-Store.offset c.in-Store.width c.in-Store.value _ _ (rw c.in-Store.is at c.requires.named) c.stored.ensures (rw c.in-Store.is at s)

pub returns-in-Clean : goal.returns-in-Clean
returns-in-Clean c = λ whole rest left s. after_clean whole rest left _ _ c.in-Clean.hart c.in-Clean.line _ _ _ (rw c.in-Clean.is at c.requires.named) refl c.cleaned.ensures (rw c.in-Clean.is at s)
