use Rattle.std.proofs.Common.{◌∙◌, ap, refl, List, ℕ}
use Rattle.recovery.specs.Images.{content, same_at}
use Rattle.verdict.specs.CutImages.{image_at}
use Rattle.routine_judge.proofs.outside.known_images.KnownImagesRecovery.is_alike.Goals as goal

pub returns : goal.returns
returns c =
    let cuts = c.args.self.now.cuts.now in
    let image = image_at cuts.index.now.start cuts.index.now.events cuts.moment in
    let q = c.args.asked in
    c.have_same.ensures
    ∙ ap (λ (xs : List ℕ). same_at q.bytes 0 xs c.line-2.result.now) (c.line.ensures (λ l. c.args.one) refl)
    ∙ ap (λ (ys : List ℕ). same_at q.bytes 0 (content image q.line c.args.one) ys) (c.line-2.ensures (λ l. c.args.other) refl)
