use Rattle.std.proofs.Common.{◌∙◌, arith, sym}
use Rattle.recovery.specs.Images.{has_same_bytes}
use Rattle.routine_judge.proofs.Bytewise.{none_next}
use Rattle.verdict.specs.CutImages.{image_at}
use Rattle.routine_judge.proofs.outside.known_images.KnownImagesRecovery.is_first.Goals as goal

pub loop-lower-preserved : goal.loop-lower-preserved
loop-lower-preserved c =
    let i = c.loop-lower.invariant in
    let cuts = c.args.self.now.cuts.now in
    let image = image_at cuts.index.now.start cuts.index.now.events cuts.moment in (
      let h = i.0 in omega (arith, h),
      let h = c.loop-lower-test.true in omega (arith, h),
      i.2
          ∙ none_next (λ m. has_same_bytes image c.args.asked m c.args.number) c.loop-lower.lower c.args.number c.loop-lower-test.true
          (sym c.is_alike.ensures ∙ c.if-is_alike.false),
    )
