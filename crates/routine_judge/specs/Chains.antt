-- Chains of power cuts, and the verdict on a row of moments by the fewest cuts in recovery.
-- Source: durable linearizability (Izraelevitz, Mendes, Scott, DISC 2016) for what a recovery shows; that the fewest cuts are told is this project's own.
use Rattle.std.specs.Prelude.{◌≡◌, ℕ, ◌+◌, ◌<◌, ◌≤◌, ◌++◌, Bool, List, [], ◌∷◌, Option, Some, None, length}
use Rattle.program.specs.Sections.{Sections}
use Rattle.machine.specs.Replies.{trace_in}
use Rattle.machine.specs.Run.{Config, started}
use Rattle.recovery.specs.Answers.{answer}
use Rattle.recovery.specs.Cuts.{shown_at}
use Rattle.recovery.specs.Recovery.{RunsFor}
use Rattle.routine_judge.specs.CutVerdicts.{IsImageAt, IsJudgedWith}
use Rattle.routine_judge.specs.CutsInRecovery.{IsAllowed, IsBadAfter}
use Rattle.routine_judge.specs.RightAnswers.{IsSource, RunsOn, Source}
use Rattle.routine_judge.specs.Views.{JudgeView}
use Rattle.routine_judge.specs.declared.cuts.judging.CutCause.{CutCause}
use Rattle.routine_judge.specs.declared.cuts.outcome.ChainLink.{ChainLink}
use Rattle.routine_judge.specs.declared.cuts.outcome.CutsVerdict.{CutsVerdict}
use Rattle.routine_judge.specs.declared.cuts.outcome.CutsVerdict.TheVariants as verdicts
use Rattle.routine_judge.specs.declared.cuts.outcome.RecoveryCuts.{RecoveryCuts}
use Rattle.routine_judge.specs.declared.cuts.outcome.RecoveryCuts.TheVariants.{AtMost, Any}
use Rattle.verdict.specs.GoingOn.{IsVerdictOn, settled}
use Rattle.verdict.specs.Verdicts.{PassBetween}
use Rattle.verdict.specs.declared.moment_verdict.verdict.Verdict.TheVariants as runs

-- the link's cut comes while a routine runs on a medium, or after it has ended there; it leaves this image, and this was shown until then
pub record IsCutIn (program : Sections) (steps : ℕ) (before : List (List ℕ)) (earlier : Option (List ℕ)) (link : ChainLink) (left : List (List ℕ)) (shown : Option (List ℕ)) : Type 0 where
  pub end : Config
  pub full : Bool
  pub runs : RunsFor (started program before 1) steps end full
  pub image_at : IsImageAt before (trace_in end.common) link.moment link.image left
  pub shows : shown ≡ shown_at link.moment (length (trace_in end.common)) (answer end full) earlier

-- A chain of cuts leaves this image: the first is one of the program, each further one comes in the recovery on what the one before it leaves.
pub data LeadsTo (view : JudgeView) : List ChainLink → List (List ℕ) → Option (List ℕ) → Type 0 where
  in_program : (link : ChainLink) (left : List (List ℕ)) → IsImageAt view.start view.events link.moment link.image left → LeadsTo view (link ∷ []) left None
  in_recovery : (links : List ChainLink) (link : ChainLink) (before left : List (List ℕ)) (earlier shown : Option (List ℕ)) → LeadsTo view links before earlier
      → IsCutIn view.routine view.steps before earlier link left shown → LeadsTo view (links ++ link ∷ []) left shown

-- the chain leaves an image that is bad at this moment with this cause
pub record IsBadChain (view : JudgeView) (m : ℕ) (chain : List ChainLink) (cause : CutCause) : Type 0 where
  pub source : Source
  pub is_source : IsSource view m source
  pub image : List (List ℕ)
  pub shown : Option (List ℕ)
  pub leads : LeadsTo view chain image shown
  pub bad : IsBadAfter view source image shown cause

-- the chain begins at this moment, and has so many cuts in recovery
abbrev pub BeginsAt : ℕ → ℕ → List ChainLink → Type 0
BeginsAt m cuts [] = ⊥
BeginsAt m cuts (link ∷ links) = (link.moment ≡ m) × (length links ≡ cuts)

-- how many cuts in recovery are looked at; None is any number
abbrev pub most_of : RecoveryCuts → Option ℕ
most_of (AtMost most) = Some most
most_of Any = None

-- the moments from `first` on that are below `end` stay right by up to so many cuts, but those that are open
abbrev pub AreSettled : Bool → JudgeView → Option ℕ → ℕ → ℕ → Type 0
AreSettled goes_on view most first end = PassBetween (settled goes_on (IsJudgedWith most view)) first end

-- By fewer than n cuts all moments of the row are settled, and by up to n those before this one.
pub record IsFirstUnsettled (goes_on : Bool) (view : JudgeView) (asked : RecoveryCuts) (first end n m : ℕ) : Type 0 where
  pub allowed : IsAllowed (most_of asked) n
  pub from : first ≤ m
  pub there : m < end
  pub fewer : (k : ℕ) → k < n → AreSettled goes_on view (Some k) first end
  pub before : AreSettled goes_on view (Some n) first m

-- the moment is too long, and by no cut in recovery those before it are settled
pub record IsFirstLong (goes_on : Bool) (view : JudgeView) (first end m : ℕ) : Type 0 where
  pub from : first ≤ m
  pub there : m < end
  pub source : Source
  pub is_source : IsSource view m source
  pub runs_on : RunsOn view source
  pub before : AreSettled goes_on view (Some 0) first m

-- The chain has the fewest cuts in recovery, and begins at the least moment from which so few leave a bad image.
abbrev pub IsFirstChain : Bool → JudgeView → RecoveryCuts → ℕ → ℕ → List ChainLink → CutCause → Type 0
IsFirstChain goes_on view asked first end [] cause = ⊥
IsFirstChain goes_on view asked first end (link ∷ links) cause =
    IsFirstUnsettled goes_on view asked first end (length links) link.moment × IsBadChain view link.moment (link ∷ links) cause

-- The verdict on these moments. Where what so many cuts leave is all right, and what one more leaves takes too many runs, all moments are settled by so many,
-- and those before this one by one more.
abbrev pub IsCutsVerdict : Bool → JudgeView → RecoveryCuts → ℕ → ℕ → CutsVerdict → Type 0
IsCutsVerdict goes_on view asked first end (verdicts.Pass moments images) =
    IsVerdictOn goes_on (IsJudgedWith (most_of asked) view) view.events first end (runs.Pass moments images)
IsCutsVerdict goes_on view asked first end (verdicts.Open moments images told) =
    IsVerdictOn goes_on (IsJudgedWith (most_of asked) view) view.events first end (runs.Open moments images told)
IsCutsVerdict goes_on view asked first end (verdicts.Fail chain cause) = IsFirstChain goes_on view asked first end chain.items cause
IsCutsVerdict goes_on view asked first end (verdicts.TooMany m None) = IsFirstUnsettled goes_on view asked first end 0 m
IsCutsVerdict goes_on view asked first end (verdicts.TooMany m (Some k)) = IsFirstUnsettled goes_on view asked first end (k + 1) m
IsCutsVerdict goes_on view asked first end (verdicts.TooLong m) = IsFirstLong goes_on view first end m
