use Rattle.std.proofs.Common.{◌∙◌, List, Option, None, ℕ, length, ap}
use Rattle.std.proofs.lemmas.List.{length-replicate}
use Rattle.routine_judge.proofs.Boxing.{alone_box}
use Rattle.routine_judge.proofs.cuts.image_box.ImageBox.of.Goals as goal

pub invariant_of-result : goal.invariant_of-result
invariant_of-result c =
    let table = c.in_ok-contents.contents.items in (
      ap (λ (t : List (Option (List (List ℕ)))). length t) c.in_ok-contents.ensures ∙ length-replicate c.lines-lines.result None ∙ c.lines-lines.ensures.count,
      alone_box c.args.medium.now table c.lines-lines.result c.in_ok-contents.ensures c.lines-lines.ensures.whole,
    )
