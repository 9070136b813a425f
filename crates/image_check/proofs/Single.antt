-- A run has one verdict: each image is found to be one thing.
use Rattle.std.proofs.Common.{◌≡◌, ℕ, Bool, List, refl, ap, subst, Option, Some, None, take}
use Rattle.store_trace.specs.Image.{image}
use Rattle.verdict.specs.Branches.{same_number}
use Rattle.verdict.proofs.Deciding as verdicts
use Rattle.verdict.proofs.GoingOn as going_on
use Rattle.verdict.specs.GoingOn.{IsVerdictOn}
use Rattle.verdict.specs.declared.moment_verdict.verdict.MomentVerdict.{MomentVerdict}
use Rattle.verdict.specs.declared.moment_verdict.verdict.Verdict.{Verdict}
use Rattle.nova_log.specs.Volumes.{volume_of}
use Rattle.plan.specs.declared.operation.Operation.{Operation}
use Rattle.store_trace.specs.History.{history}
use Rattle.store_trace.specs.declared.event.Event.{Event}
use Rattle.image_check.specs.Images.{IsFound, IsGood, IsSpoilt}
use Rattle.image_check.specs.Legal.{IsLegal}
use Rattle.image_check.specs.Verdicts.{IsMomentVerdict, IsVerdictBetween, asks_at, found_at, judged_at}
use Rattle.image_check.specs.declared.cause.Cause.{Cause}
use Rattle.image_check.specs.declared.cause.Cause.TheVariants.{Fault, Illegal}
use Rattle.nova_log.specs.declared.volume.entry.Entry.{Entry}

-- an image is bad for one cause, and a good one for none
cause_once : (plan : List Operation) (start : List (List ℕ)) (events : List Event) (medium : List (List ℕ)) (cause other : Cause) →
    IsSpoilt plan start events medium cause → IsSpoilt plan start events medium other → cause ≡ other
cause_once plan start events medium (Fault fault) (Fault other) a b = cc
cause_once plan start events medium (Fault fault) Illegal a b = let e = b.1 in cc
cause_once plan start events medium Illegal (Fault other) a b = let e = a.1 in cc
cause_once plan start events medium Illegal Illegal a b = refl

good_unspoilt : (plan : List Operation) (start : List (List ℕ)) (events : List Event) (medium : List (List ℕ)) (cause : Cause) →
    IsGood plan start events medium → ¬ IsSpoilt plan start events medium cause
good_unspoilt plan start events medium (Fault fault) g s = let e = g.recovers in cc
good_unspoilt plan start events medium Illegal g s =
    let e = g.recovers in
    let f = s.1 in
    let same : g.volume ≡ s.0 = cc in
    s.2 (subst (λ (v : List (List Entry)). IsLegal plan (volume_of start) events v) same g.legal)

found_once : (plan : List Operation) (start : List (List ℕ)) (events : List Event) (medium : List (List ℕ)) (one other : Option Cause) →
    IsFound plan start events medium one → IsFound plan start events medium other → one ≡ other
found_once plan start events medium None None a b = refl
found_once plan start events medium None (Some cause) a b = absurd (good_unspoilt plan start events medium cause a b)
found_once plan start events medium (Some cause) None a b = absurd (good_unspoilt plan start events medium cause b a)
found_once plan start events medium (Some cause) (Some other) a b = ap (λ (c : Cause). Some c) (cause_once plan start events medium cause other a b)

pub moment_once : (plan : List Operation) (start : List (List ℕ)) (events : List Event) (verdict other : MomentVerdict Cause) →
    IsMomentVerdict plan start events verdict → IsMomentVerdict plan start events other → verdict ≡ other
moment_once plan start events verdict other a b =
    verdicts.moment_once same_number (asks_at start (history events)) (found_at plan start events) (history events) verdict other
    (λ k one its f h. found_once plan start events (image start k (history events)) one its f h) a b

pub verdict_once : (plan : List Operation) (start : List (List ℕ)) (events : List Event) (first end : ℕ) (verdict other : Verdict Cause) →
    IsVerdictBetween plan start events first end verdict → IsVerdictBetween plan start events first end other → verdict ≡ other
verdict_once plan start events first end verdict other a b =
    verdicts.verdict_once (judged_at plan start events) events first end verdict other (λ m one its f h. moment_once plan start (take m events) one its f h) a b

pub verdict_on_once : (goes_on : Bool) (plan : List Operation) (start : List (List ℕ)) (events : List Event) (first end : ℕ) (verdict other : Verdict Cause) →
    IsVerdictOn goes_on (judged_at plan start events) events first end verdict →
    IsVerdictOn goes_on (judged_at plan start events) events first end other → verdict ≡ other
verdict_on_once goes_on plan start events first end verdict other a b =
    going_on.verdict_on_once goes_on (judged_at plan start events) events first end (λ m one its f h. moment_once plan start (take m events) one its f h) verdict other a b
