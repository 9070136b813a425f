use Rattle.std.proofs.Common.{◌∙◌, ap, refl, List, ℕ}
use Rattle.recovery.specs.Images.{content, same_at}
use Rattle.routine_judge.proofs.answer_images.AnswerImagesRecovery.is_alike.Goals as goal

pub returns : goal.returns
returns g c =
    let image = g.I.Images.image c.args.self.now.images.now in
    let q = c.args.asked in
    c.have_same.ensures
    ∙ ap (λ (xs : List ℕ). same_at q.bytes 0 xs c.line-2.result.now) (c.line.ensures (λ l. c.args.one) refl)
    ∙ ap (λ (ys : List ℕ). same_at q.bytes 0 (content image q.line c.args.one) ys) (c.line-2.ensures (λ l. c.args.other) refl)
