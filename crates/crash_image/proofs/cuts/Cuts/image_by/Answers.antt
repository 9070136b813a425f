use Rattle.std.proofs.Common.{sym, subst}
use Rattle.store_trace.specs.Cut.{IsCut}
use Rattle.crash_image.specs.View.{CutsView}
use Rattle.crash_image.proofs.Stored.{cut_below}
use Rattle.crash_image.proofs.cuts.Cuts.image_by.Goals as goal

pub imaged-requires-clause-entries : goal.imaged-requires-clause-entries
imaged-requires-clause-entries c =
    cut_below _ _ _ c.self.invariant.2
    (subst (λ (v : CutsView). IsCut v.steps c.args.entries.now) (sym c.self.view_is) c.requires)
