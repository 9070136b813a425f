use Rattle.std.proofs.Common.{◌∙◌, ◌<◌, List, ℕ, length, ap, arith}
use Rattle.std.proofs.lemmas.List.{length-set}
use Rattle.std.specs.Prelude.{Some}
use Rattle.routine_judge.proofs.Boxing.{length_spread, put_box}
use Rattle.routine_judge.proofs.cuts.image_box.ImageBox.put.Goals as goal

pub invariant_of-self : goal.invariant_of-self
invariant_of-self c =
    let i = c.self.inside in
    let v = c.self.invariant in
    let size = ap (λ (box : List (List (List ℕ))). length box) c.self.view_is in
    let there : c.args.line < length i.contents.items = omega (arith, c.requires.there, size, length_spread i.medium.now i.contents.items, v.0) in (
      length-set i.contents.items c.args.line (Some c.args.contents) ∙ v.0,
      put_box i.medium.now i.contents.items c.args.line c.args.contents there v.1 c.lines.ensures.whole c.requires.some,
    )
