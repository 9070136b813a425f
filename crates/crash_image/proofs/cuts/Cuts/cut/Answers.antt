use Rattle.std.proofs.Common.{◌≡◌, ◌∙◌, List, ap}
use Rattle.crash_image.proofs.Numbering.{cut_at}
use Rattle.crash_image.specs.Bounds.{cut_from, stored_bounds}
use Rattle.crash_image.specs.View.{CutsView}
use Rattle.crash_image.specs.declared.bounds.LineBounds.{LineBounds}
use Rattle.crash_image.proofs.cuts.Cuts.cut.Goals as goal

pub returns-clause-bounds : goal.returns-clause-bounds
returns-clause-bounds c =
    let b : c.deref.result.now ≡ stored_bounds c.args.self.now.steps =
    c.deref.ensures.value ∙ c.self.invariant.3 ∙ ap (λ (v : CutsView). stored_bounds v.steps) c.self.view_is in
    let e : c.from_entries.result ≡ cut_from (stored_bounds c.args.self.now.steps) c.args.n =
    c.from_entries.ensures ∙ c.in_ok-entries.ensures ∙ ap (λ (bs : List LineBounds). cut_from bs c.args.n) b in
    (cut_at c.args.self.now.steps c.args.n c.from_entries.result c.requires e).1
