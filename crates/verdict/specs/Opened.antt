-- What the branches of a moment come to, by cases.
use Rattle.std.specs.Prelude.{◌≡◌, ℕ, Bool, true, false, Option, Some, None, List, length, IfSome}
use Rattle.verdict.specs.Branches.{AreOver, IsLeastBad, IsWithin}
use Rattle.verdict.specs.Edges.{AreAllGood, AreOpen, AreTried, IsBadCut, edges}
use Rattle.verdict.specs.Numbers.{number_over}
use Rattle.verdict.specs.declared.branches.opener.Opened.{Opened}
use Rattle.verdict.specs.declared.branches.opener.Opened.TheVariants.{Over, OverBad, Pass, Bad}
use Rattle.verdict.specs.declared.branches.progress.Progress.{Progress}
use Rattle.verdict.specs.declared.branches.question.Question.{Question}
use Rattle.verdict.specs.declared.branches.run.Run.{Run}

-- the claim holds where there aren't over so many branches
abbrev pub IfFew : {Cause : Type 0} → Opened Cause → Type 0 → Type 0
IfFew (Over lines) claim = Unit {0}
IfFew (OverBad numbers cause) claim = Unit {0}
IfFew Pass claim = claim
IfFew (Bad numbers cause) claim = claim

-- Over so many branches, and where further images are tried, lines whose edge images are good, or a bad cut. Else each cut passes, or this
-- is the least bad one.
abbrev pub IsOpened : {Cause : Type 0} → Bool → (Question → ℕ → ℕ → Bool) → ((ℕ → ℕ) → List Question → Type 0) → ((ℕ → ℕ) → Option Cause → Type 0) →
    (ℕ → ℕ) → (ℕ → ℕ) → ℕ → ℕ → Opened Cause → Type 0
IsOpened further alike asks judged low high count limit (Over None) = AreOver alike asks low high limit × (further ≡ false)
IsOpened further alike asks judged low high count limit (Over (Some lines)) = AreOver alike asks low high limit × (further ≡ true)
    × AreTried asks judged low high lines.items × AreOpen low high count lines.items
IsOpened further alike asks judged low high count limit (OverBad numbers cause) = AreOver alike asks low high limit × (further ≡ true)
    × IsBadCut judged low high numbers.items cause × (length numbers.items ≡ count)
IsOpened further alike asks judged low high count limit Pass =
    (¬ AreOver alike asks low high limit) × ((k : ℕ → ℕ) → IsWithin low high k → judged k None)
IsOpened further alike asks judged low high count limit (Bad numbers cause) =
    (¬ AreOver alike asks low high limit) × IsLeastBad low high judged (number_over low numbers.items) cause × (length numbers.items ≡ count)

-- The same where there are over so many, by why the least bad one of those that were opened is bad: if there is one, it is told.
abbrev pub IsTried : {Cause : Type 0} → Bool → ((ℕ → ℕ) → List Question → Type 0) → ((ℕ → ℕ) → Option Cause → Type 0) → (ℕ → ℕ) → (ℕ → ℕ) → ℕ →
    Option Cause → Opened Cause → Type 0
IsTried further asks judged low high count least (Over None) = further ≡ false
IsTried further asks judged low high count least (Over (Some lines)) =
    (further ≡ true) × AreTried asks judged low high lines.items × AreOpen low high count lines.items × (least ≡ None)
IsTried further asks judged low high count least (OverBad numbers cause) =
    (further ≡ true) × IsBadCut judged low high numbers.items cause × (length numbers.items ≡ count) × IfSome least (λ its. its ≡ cause)
IsTried further asks judged low high count least Pass = ⊥
IsTried further asks judged low high count least (Bad numbers cause) = ⊥

-- what comes of the edge images of these lines
abbrev pub ComesOf : {Cause : Type 0} → ((ℕ → ℕ) → Option Cause → Type 0) → (ℕ → ℕ) → (ℕ → ℕ) → ℕ → List ℕ → Opened Cause → Type 0
ComesOf judged low high count tried (Over None) = ⊥
ComesOf judged low high count tried (Over (Some lines)) = (lines.items ≡ tried) × AreAllGood judged (edges low high tried)
ComesOf judged low high count tried (OverBad numbers cause) = IsBadCut judged low high numbers.items cause × (length numbers.items ≡ count)
ComesOf judged low high count tried Pass = ⊥
ComesOf judged low high count tried (Bad numbers cause) = ⊥

-- each table has as many lines as the medium
pub record AreSized (count : ℕ) (progress : Progress) (run : Run) : Type 0 where
  pub asked : length progress.findings.asked ≡ count
  pub least : length progress.findings.least ≡ count
  pub numbers : length run.numbers ≡ count
