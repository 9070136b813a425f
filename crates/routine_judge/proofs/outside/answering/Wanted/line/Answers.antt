use Rattle.std.proofs.Common.{◌≡◌, ◌∙◌, ◌<◌, ap, arith, length, subst, sym}
use Rattle.std.specs.Prelude.{slice_index}
use Rattle.line_memory.specs.Lines.{line_at}
use Rattle.routine_judge.proofs.OutsideAsking.{known_line, numbers_in}
use Rattle.routine_judge.specs.OutsideViews.{WantedView, known_image}
use Rattle.routine_judge.proofs.outside.answering.Wanted.line.Goals as goal

pub line-requires-clause-number : goal.line-requires-clause-number
line-requires-clause-number c =
    let i = c.self.inside in
    let most = (numbers_in i.medium.now i.index.now.events i.moment i.numbers.now c.self.invariant.2).most c.args.line in
    let same = ap (λ (w : WantedView). slice_index w.numbers c.args.line) c.self.view_is in
    let number = c.number.ensures in
    omega (arith, most, same, number)

pub returns : goal.returns
returns c =
    let i = c.self.inside in
    let same = ap (λ (w : WantedView). slice_index w.numbers c.args.line) c.self.view_is in
    subst (λ (w : WantedView). c.line.result.now ≡ line_at (known_image w.start w.events w.numbers) c.args.line) c.self.view_is
    (known_line i.index.now.start i.medium.now i.index.now.events i.numbers.now c.args.line c.number.result c.line.result.now c.self.invariant.0
    (subst (λ (w : WantedView). c.args.line < length w.start) (sym c.self.view_is) c.requires) (c.number.ensures ∙ sym same) c.line.ensures.whole)
