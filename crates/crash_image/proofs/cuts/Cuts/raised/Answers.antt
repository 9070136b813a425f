use Rattle.std.proofs.Common.{◌∙◌, List, ℕ, ap}
use Rattle.crash_image.proofs.CutNames.{raised_cut}
use Rattle.crash_image.specs.Bounds.{stored_bounds}
use Rattle.crash_image.specs.Named.{raised_from}
use Rattle.crash_image.specs.View.{CutsView}
use Rattle.crash_image.proofs.cuts.Cuts.raised.Goals as goal

pub returns-clause-ok : goal.returns-clause-ok
returns-clause-ok c =
    raised_cut c.args.self.now.steps c.deref.result.now c.args.cut.now c.from_entries.result c.requires
    (c.deref.ensures.value ∙ c.self.invariant.3 ∙ ap (λ (v : CutsView). stored_bounds v.steps) c.self.view_is)
    (c.from_entries.ensures ∙ c.in_ok-lines.ensures ∙ ap (λ (es : List (ℕ × ℕ)). raised_from c.deref.result.now es) c.entries.ensures)
