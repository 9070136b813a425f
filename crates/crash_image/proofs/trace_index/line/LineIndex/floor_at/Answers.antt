use Rattle.std.proofs.Common.{ap, ◌∙◌, List}
use Rattle.crash_image.specs.Lines.{LineView, floor_before}
use Rattle.crash_image.specs.declared.trace_index.line.Raise.{Raise}
use Rattle.crash_image.proofs.trace_index.line.LineIndex.floor_at.Goals as goal

pub returns-else-are_before : goal.returns-else-are_before
returns-else-are_before c = λ count p.
    let same = ap (λ (line : LineView). line.raises) c.self.view_is in
    let there = c.deref-else-are_before.ensures.value ∙ same in
    let first = c.deref.ensures.value ∙ same in
    let place = c.raises_before.ensures.place count (rw there p) in
    c.floor_after.ensures ∙ ap (λ (xs : List Raise). floor_before xs c.raises_before.result) first ∙ ap (floor_before c.args.self.now.raises) place
