use Rattle.std.proofs.Common.{◌≡◌, ◌-◌, ◌≤◌}
use Rattle.recovery.specs.Images.{has_same_bytes}
use Rattle.store_trace.specs.Floor.{floor}
use Rattle.store_trace.specs.History.{at_moment}
use Rattle.verdict.specs.Branches.{is_first, none_of}
use Rattle.verdict.specs.CutImages.{image_at}
use Rattle.routine_judge.proofs.outside.known_images.KnownImagesRecovery.is_first.Given as goal

abbrev pub invariant-loop-lower : goal.invariant-loop-lower
invariant-loop-lower l =
    let cuts = l.fn.self.cuts.now in
    let same = has_same_bytes (image_at cuts.index.now.start cuts.index.now.events cuts.moment) l.fn.asked in
    let low = floor l.fn.asked.line (at_moment cuts.index.now.events cuts.moment) in
    (low ≤ l.lower) × (l.lower ≤ l.fn.number) × (is_first same low l.fn.number ≡ none_of (λ m. same m l.fn.number) l.lower (l.fn.number - l.lower))
