-- With no power cut in recovery a moment stays right just where each image of it is found good.
use Rattle.std.proofs.Common.{◌≡◌, ℕ, zero, suc, ◌≤◌, List, Option, Some, None, Ok, sym, subst, refl, arith}
use Rattle.std.specs.Prelude.{IfSome}
use Rattle.recovery.specs.Cuts.{AnswersWell}
use Rattle.recovery.specs.Images.{AnswersOn}
use Rattle.routine_judge.specs.CutsInRecovery.{AllAnswered, Left}
use Rattle.routine_judge.specs.RightAnswers.{IsFoundOf, IsRightOf, Source}
use Rattle.routine_judge.specs.Views.{JudgeView}
use Rattle.store_trace.specs.Cut.{IsCutImage, number_in}
use Rattle.store_trace.specs.History.{at_moment}
use Rattle.store_trace.specs.Image.{image}
use Rattle.verdict.specs.Verdicts.{AreGood}

pub plainly_good : (view : JudgeView) (source : Source) (m : ℕ) → AllAnswered view source (Some 0) m → AreGood (IsFoundOf view source m) (at_moment view.events m)
plainly_good view source m all cut is =
    let p = at_moment view.events m in
    let well = all 0 (image view.start (number_in cut) p) None (omega arith) (record { cut = cut; bounds = is; bytes = refl }, refl) in
    (well.bytes, well.answers, well.is_right)

good_well : (view : JudgeView) (source : Source) (m : ℕ) (left : List (List ℕ)) (shown : Option (List ℕ)) → AreGood (IsFoundOf view source m) (at_moment view.events m)
    → IsCutImage view.start (at_moment view.events m) left → shown ≡ None → AnswersWell view.routine view.steps (IsRightOf view source) left shown
good_well view source m left shown good at none =
    let (bytes, answers, right) = good at.cut at.bounds in record {
      bytes = bytes;
      answers = subst (λ (lines : List (List ℕ)). AnswersOn view.routine view.steps lines (Ok bytes)) (sym at.bytes) answers;
      is_right = right;
      stays = subst (λ (s : Option (List ℕ)). IfSome s (λ was. bytes ≡ was)) (sym none) tt;
    }

well_to : (view : JudgeView) (source : Source) (m cuts : ℕ) (left : List (List ℕ)) (shown : Option (List ℕ)) → AreGood (IsFoundOf view source m) (at_moment view.events m)
    → cuts ≤ 0 → Left view m cuts left shown → AnswersWell view.routine view.steps (IsRightOf view source) left shown
well_to view source m zero left shown good none (at, nothing) = good_well view source m left shown good at nothing
well_to view source m (suc cuts) left shown good none h = absurd (omega (arith, none))

pub good_plainly : (view : JudgeView) (source : Source) (m : ℕ) → AreGood (IsFoundOf view source m) (at_moment view.events m) → AllAnswered view source (Some 0) m
good_plainly view source m good cuts left shown none h = well_to view source m cuts left shown good none h
