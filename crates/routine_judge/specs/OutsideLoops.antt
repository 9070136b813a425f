-- Moments judged in turn, by replies that are asked for where they are needed.
use Rattle.std.specs.Prelude.{◌≡◌, ◌≢◌, ℕ, ◌++◌, ◌<◌, List, [], ◌∷◌, Option, Some, None, IfSome, length}
use Rattle.routine_judge.specs.Outside.{AreRepliesOf, HasAsked, HasNoReply, IsOutsideMoment, Outside}
use Rattle.routine_judge.specs.OutsideViews.{KnownView, ReplyView, WantedView}
use Rattle.routine_judge.specs.declared.fault.JudgeFault.{JudgeFault}
use Rattle.routine_judge.specs.declared.fault.JudgeFault.TheVariants.{Marks, NoSuchMoment, Memory}
use Rattle.routine_judge.specs.declared.outside.cause.OutsideCause.{OutsideCause}
use Rattle.routine_judge.specs.declared.outside.fault.OutsideFault.{OutsideFault}
use Rattle.routine_judge.specs.declared.outside.fault.OutsideFault.TheVariants.{Judge, Answer}
use Rattle.store_trace.specs.declared.event.Event.{Event}
use Rattle.verdict.specs.Verdicts.{IsLeastMoment, PassBetween}
use Rattle.verdict.specs.declared.moment_verdict.verdict.MomentVerdict.{MomentVerdict}
use Rattle.verdict.specs.declared.moment_verdict.verdict.MomentVerdict.TheVariants as moments
use Rattle.verdict.specs.declared.moment_verdict.verdict.Verdict.{Verdict}
use Rattle.verdict.specs.declared.moment_verdict.verdict.Verdict.TheVariants as rows

-- of the moments from `first` on that are below `end` this is the least that doesn't pass, and its verdict; None where all pass
abbrev pub IsFirstFailing : (ℕ → MomentVerdict OutsideCause → Type 0) → ℕ → ℕ → Option (ℕ × MomentVerdict OutsideCause) → Type 0
IsFirstFailing judged first end None = PassBetween judged first end
IsFirstFailing judged first end (Some found) = IsLeastMoment judged first end found.0 found.1

-- that, by the replies that were given meanwhile, whatever recovery gave them
pub record IsSettled {A : Type 0} (gives : A → WantedView → ReplyView → A → Type 0) (start : List (List ℕ)) (events : List Event) (first end : ℕ)
    (old new : A) (found : Option (ℕ × MomentVerdict OutsideCause)) : Type 0 where
  pub replies : List KnownView
  pub asked : HasAsked gives start events old replies new
  pub failing : IfSome found (λ failed. failed.1 ≢ moments.Pass)
  pub found_is : (recovery : Outside) → AreRepliesOf recovery start events replies →
      IsFirstFailing (IsOutsideMoment recovery start events replies) first end found

-- one more reply was given
pub record IsAnswered {A : Type 0} (gives : A → WantedView → ReplyView → A → Type 0) (start : List (List ℕ)) (events : List Event) (m : ℕ)
    (numbers : List ℕ) (before after : A) (replies more : List KnownView) : Type 0 where
  pub reply : ReplyView
  pub given : gives before (record { start = start; events = events; moment = m; numbers = numbers }) reply after
  pub kept : more ≡ replies ++ (record { numbers = numbers; reply = reply } ∷ [])

-- none was given, or memory was refused behind one
abbrev pub IsUnanswered : {A F : Type 0} → (A → WantedView → ReplyView → A → Type 0) → (A → WantedView → F → A → Type 0) → List (List ℕ) → List Event
    → ℕ → List ℕ → A → A → OutsideFault F → Type 0
IsUnanswered gives fails start events m numbers before after (Judge fault) =
    (fault ≡ Memory) × ((reply : ReplyView) × gives before (record { start = start; events = events; moment = m; numbers = numbers }) reply after)
IsUnanswered gives fails start events m numbers before after (Answer fault) =
    fails before (record { start = start; events = events; moment = m; numbers = numbers }) fault after

-- each image that was asked for got a reply
abbrev pub AreAllReplied : {A : Type 0} → (A → WantedView → ReplyView → A → Type 0) → List (List ℕ) → List Event → A → A → Type 0
AreAllReplied gives start events old new = (replies : List KnownView) × HasAsked gives start events old replies new

-- why moments aren't judged: memory was refused, or there was no reply
abbrev pub IsStopped : {A F : Type 0} → (A → WantedView → ReplyView → A → Type 0) → (A → WantedView → F → A → Type 0) → List (List ℕ) → List Event
    → A → A → OutsideFault F → Type 0
IsStopped gives fails start events old new (Judge fault) = (fault ≡ Memory) × AreAllReplied gives start events old new
IsStopped gives fails start events old new (Answer fault) = HasNoReply gives fails start events old new fault

-- why there is no verdict from moment `first` on: there is no such moment, and nobody was asked; or the same
abbrev pub IsMissing : {A F : Type 0} → (A → WantedView → ReplyView → A → Type 0) → (A → WantedView → F → A → Type 0) → List (List ℕ) → List Event
    → ℕ → A → A → OutsideFault F → Type 0
IsMissing gives fails start events first old new (Judge (Marks fault)) = ⊥
IsMissing gives fails start events first old new (Judge NoSuchMoment) = (length events < first) × (new ≡ old)
IsMissing gives fails start events first old new (Judge Memory) = AreAllReplied gives start events old new
IsMissing gives fails start events first old new (Answer fault) = HasNoReply gives fails start events old new fault

-- the verdict on a row of moments is that on this one
abbrev pub IsVerdictAt : ℕ → MomentVerdict OutsideCause → Verdict OutsideCause → Type 0
IsVerdictAt m moments.Pass verdict = ⊥
IsVerdictAt m (moments.Fail name cause many) verdict = verdict ≡ rows.Fail m name cause many
IsVerdictAt m (moments.TooMany named) verdict = verdict ≡ rows.TooMany m named
IsVerdictAt m moments.TooLong verdict = verdict ≡ rows.TooLong m
