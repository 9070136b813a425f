use Rattle.std.proofs.Common.{◌≡◌, ◌∙◌, List, ℕ, ap}
use Rattle.crash_image.proofs.CutNames.{few_choices, number_cut}
use Rattle.crash_image.proofs.Numbering.{fits_from_cut}
use Rattle.crash_image.specs.Bounds.{stored_bounds}
use Rattle.crash_image.specs.Named.{number_from}
use Rattle.crash_image.specs.View.{CutsView}
use Rattle.crash_image.proofs.cuts.Cuts.number.Goals as goal

pub number-requires-clause-fits : goal.number-requires-clause-fits
number-requires-clause-fits c =
    let b : c.deref.result.now ≡ stored_bounds c.args.self.now.steps =
    c.deref.ensures.value ∙ c.self.invariant.3 ∙ ap (λ (v : CutsView). stored_bounds v.steps) c.self.view_is in
    rw (b, c.entries.ensures) (fits_from_cut c.args.self.now.steps c.args.cut.now c.requires.cut)

pub number-requires-clause-few : goal.number-requires-clause-few
number-requires-clause-few c =
    few_choices c.args.self.now.steps c.deref.result.now
    (c.deref.ensures.value ∙ c.self.invariant.3 ∙ ap (λ (v : CutsView). stored_bounds v.steps) c.self.view_is) c.requires.few

pub returns-clause-there : goal.returns-clause-there
returns-clause-there c =
    (number_cut c.args.self.now.steps c.deref.result.now c.args.cut.now c.number.result c.requires.cut
    (c.deref.ensures.value ∙ c.self.invariant.3 ∙ ap (λ (v : CutsView). stored_bounds v.steps) c.self.view_is)
    (c.number.ensures ∙ ap (λ (es : List (ℕ × ℕ)). number_from c.deref.result.now es) c.entries.ensures)).0

pub returns-clause-cut : goal.returns-clause-cut
returns-clause-cut c =
    (number_cut c.args.self.now.steps c.deref.result.now c.args.cut.now c.number.result c.requires.cut
    (c.deref.ensures.value ∙ c.self.invariant.3 ∙ ap (λ (v : CutsView). stored_bounds v.steps) c.self.view_is)
    (c.number.ensures ∙ ap (λ (es : List (ℕ × ℕ)). number_from c.deref.result.now es) c.entries.ensures)).1
