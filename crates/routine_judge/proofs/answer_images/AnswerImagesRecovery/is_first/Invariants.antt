use Rattle.std.proofs.Common.{◌≡◌, ◌-◌, ◌≤◌}
use Rattle.recovery.specs.Images.{has_same_bytes}
use Rattle.verdict.specs.Branches.{is_first, none_of}
use Rattle.routine_judge.proofs.answer_images.AnswerImagesRecovery.is_first.Given as goal

abbrev pub invariant-loop-lower : goal.invariant-loop-lower
invariant-loop-lower g l =
    let same = has_same_bytes (g.I.Images.image l.fn.self.images.now) l.fn.asked in
    let low = g.I.Images.low l.fn.self.images.now l.fn.asked.line in
    (low ≤ l.lower) × (l.lower ≤ l.fn.number) × (is_first same low l.fn.number ≡ none_of (λ m. same m l.fn.number) l.lower (l.fn.number - l.lower))
