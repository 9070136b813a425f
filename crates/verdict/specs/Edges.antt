-- Edge images: those at the borders of what a power cut can leave of some lines, between which each other image of them lies.
-- After the boundary values of software tests (Myers, The Art of Software Testing).
use Rattle.std.specs.Prelude.{◌≡◌, ℕ, ◌<◌, true, if◌then◌else◌, Option, Some, None, List, ◌∷◌, ◌++◌, map}
use Rattle.std.specs.List.{AllByRecursion}
use Rattle.verdict.specs.Branches.{IsAsked, IsWithin}
use Rattle.verdict.specs.Numbers.{has, number_over}
use Rattle.verdict.specs.Queue.{with_number}
use Rattle.verdict.specs.declared.branches.question.Question.{Question}

-- each of these lines has all its stores, and the others stand at their floors
abbrev pub all_full : (ℕ → ℕ) → (ℕ → ℕ) → List ℕ → ℕ → ℕ
all_full low high lines l = if has l lines then high l else low l

-- every line at its floor; each of these alone with all its stores; and all of these with all theirs, but one
abbrev pub edges : (ℕ → ℕ) → (ℕ → ℕ) → List ℕ → List (ℕ → ℕ)
edges low high lines =
    low ∷ (map (λ l. with_number low l (high l)) lines ++ map (λ l. with_number (all_full low high lines) l (low l)) lines)

-- they are below so many, and have stores past their floors
abbrev pub AreOpen : (ℕ → ℕ) → (ℕ → ℕ) → ℕ → List ℕ → Type 0
AreOpen low high count lines = AllByRecursion (λ l. (l < count) × (low l < high l)) lines

-- the image of each of these cuts is good
abbrev pub AreAllGood : {Cause : Type 0} → ((ℕ → ℕ) → Option Cause → Type 0) → List (ℕ → ℕ) → Type 0
AreAllGood judged cuts = AllByRecursion (λ cut. judged cut None) cuts

-- a cut, by line, whose image is bad for this cause
pub record IsBadCut {Cause : Type 0} (judged : (ℕ → ℕ) → Option Cause → Type 0) (low high : ℕ → ℕ) (numbers : List ℕ) (cause : Cause) : Type 0 where
  pub within : IsWithin low high (number_over low numbers)
  pub bad : judged (number_over low numbers) (Some cause)

-- Lines that recovery asks and that have stores past their floors, among them each such line that it asks where every line stands at its
-- floor; and the edge images of these are good.
pub record AreTried {Cause : Type 0} (asks : (ℕ → ℕ) → List Question → Type 0) (judged : (ℕ → ℕ) → Option Cause → Type 0) (low high : ℕ → ℕ) (lines : List ℕ) : Type 0 where
  pub asked : AllByRecursion (λ l. IsAsked asks low high l × (low l < high l)) lines
  pub at_floors : (questions : List Question) → asks low questions →
      AllByRecursion (λ q. low q.line < high q.line → has q.line lines ≡ true) questions
  pub good : AreAllGood judged (edges low high lines)
