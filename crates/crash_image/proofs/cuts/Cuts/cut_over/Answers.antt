use Rattle.std.proofs.Common.{◌∙◌, ap}
use Rattle.crash_image.proofs.CutNames.{over_cut}
use Rattle.crash_image.specs.Bounds.{stored_bounds}
use Rattle.crash_image.specs.View.{CutsView}
use Rattle.crash_image.proofs.cuts.Cuts.cut_over.Goals as goal

pub returns-clause-ok : goal.returns-clause-ok
returns-clause-ok c =
    (over_cut c.args.self.now.steps c.args.numbers.now c.deref.result.now c.from_entries.result c.requires
    (c.deref.ensures.value ∙ c.self.invariant.3 ∙ ap (λ (v : CutsView). stored_bounds v.steps) c.self.view_is)
    (c.from_entries.ensures ∙ c.in_ok-entries.ensures)).0

pub returns-clause-bounds : goal.returns-clause-bounds
returns-clause-bounds c =
    (over_cut c.args.self.now.steps c.args.numbers.now c.deref.result.now c.from_entries.result c.requires
    (c.deref.ensures.value ∙ c.self.invariant.3 ∙ ap (λ (v : CutsView). stored_bounds v.steps) c.self.view_is)
    (c.from_entries.ensures ∙ c.in_ok-entries.ensures)).1
