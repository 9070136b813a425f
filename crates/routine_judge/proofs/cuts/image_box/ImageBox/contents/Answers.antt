use Rattle.std.proofs.Common.{◌≡◌, ◌∙◌, ◌<◌, List, None, ℕ, length, ap, subst, sym, arith}
use Rattle.std.proofs.lemmas.List.{get_or_read}
use Rattle.recovery.specs.Boxes.{contents_of}
use Rattle.routine_judge.proofs.Boxing.{length_spread, some_content, spread_put}
use Rattle.routine_judge.specs.BoxViews.{spread}
use Rattle.routine_judge.proofs.cuts.image_box.ImageBox.contents.Goals as goal

pub returns-in-Some-clause-some : goal.returns-in-Some-clause-some
returns-in-Some-clause-some c =
    let i = c.self.inside in
    let v = c.self.invariant in
    let size = ap (λ (box : List (List (List ℕ))). length box) c.self.view_is in
    let long = length_spread i.medium.now i.contents.items in
    let there : c.args.line < length i.contents.items = omega (arith, c.requires, size, long, v.0) in
    let put = get_or_read i.contents.items c.args.line c.index.result.now there c.index.ensures None in
    let same : contents_of (spread i.medium.now i.contents.items) c.args.line ≡ c.in-Some.contents =
    spread_put i.medium.now i.contents.items c.args.line c.in-Some.contents (omega (arith, there, v.0)) there (sym put ∙ c.in-Some.is) in
    subst (λ (lines : List (List ℕ)). 0 < length lines) (same ∙ sym c.lines.ensures.value)
    (some_content (spread i.medium.now i.contents.items) c.args.line v.1 (omega (arith, there, long, v.0)))
