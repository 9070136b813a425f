-- A moment whose images lie in closed boxes stays right.
use Rattle.std.proofs.Common.{ℕ, List, Some, None}
use Rattle.recovery.proofs.Staying.{closed_stays, closed_to_stays}
use Rattle.recovery.specs.Closed.{AreClosed, AreClosedTo, BoundBox, IsCovered}
use Rattle.store_trace.specs.Cut.{IsCutImage}
use Rattle.store_trace.specs.History.{at_moment}
use Rattle.routine_judge.specs.CutsInRecovery.{AllAnswered, StaysRight}
use Rattle.routine_judge.specs.RightAnswers.{IsRightOf, IsSource, Source}
use Rattle.routine_judge.specs.Views.{JudgeView}

pub answered : (view : JudgeView) (m : ℕ) (source : Source) (boxes : List BoundBox)
    → ((image : List (List ℕ)) → IsCutImage view.start (at_moment view.events m) image → IsCovered boxes 0 image None)
    → AreClosed view.routine view.steps (IsRightOf view source) boxes → AllAnswered view source None m
answered view m source boxes starts closed = λ cuts image shown allowed left.
    closed_stays view.routine view.steps (IsRightOf view source) (λ (first : List (List ℕ)). IsCutImage view.start (at_moment view.events m) first) boxes
    starts closed cuts image shown left

pub answered_to : (view : JudgeView) (m most : ℕ) (source : Source) (boxes : List BoundBox)
    → ((image : List (List ℕ)) → IsCutImage view.start (at_moment view.events m) image → IsCovered boxes 0 image None)
    → AreClosedTo view.routine view.steps (IsRightOf view source) most boxes → AllAnswered view source (Some most) m
answered_to view m most source boxes starts closed = λ cuts image shown allowed left.
    closed_to_stays view.routine view.steps (IsRightOf view source) (λ (first : List (List ℕ)). IsCutImage view.start (at_moment view.events m) first) most boxes
    starts closed cuts image shown allowed left

pub stays_right : (view : JudgeView) (m : ℕ) (source : Source) (boxes : List BoundBox) → IsSource view m source
    → ((image : List (List ℕ)) → IsCutImage view.start (at_moment view.events m) image → IsCovered boxes 0 image None)
    → AreClosed view.routine view.steps (IsRightOf view source) boxes → StaysRight view None m
stays_right view m source boxes is starts closed = record { source = source; is_source = is; answers = answered view m source boxes starts closed }

pub stays_right_to : (view : JudgeView) (m most : ℕ) (source : Source) (boxes : List BoundBox) → IsSource view m source
    → ((image : List (List ℕ)) → IsCutImage view.start (at_moment view.events m) image → IsCovered boxes 0 image None)
    → AreClosedTo view.routine view.steps (IsRightOf view source) most boxes → StaysRight view (Some most) m
stays_right_to view m most source boxes is starts closed = record { source = source; is_source = is; answers = answered_to view m most source boxes starts closed }
