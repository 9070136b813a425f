-- What a verdict says of a run.
use Rattle.std.proofs.Common.{◌≡◌, ℕ, ◌≤◌, List, Option, length, take, subst, arith}
use Rattle.std.specs.Prelude.{Ok}
use Rattle.store_trace.specs.Cut.{IsCut, number_in}
use Rattle.store_trace.specs.Image.{image}
use Rattle.nova_log.specs.Volumes.{volume_of}
use Rattle.plan.specs.declared.operation.Operation.{Operation}
use Rattle.store_trace.specs.History.{at_moment}
use Rattle.store_trace.specs.declared.event.Event.{Event}
use Rattle.nova_log.specs.declared.volume.entry.Entry.{Entry}
use Rattle.image_check.specs.Legal.{IsLegal}
use Rattle.image_check.specs.Images.{Passes}
use Rattle.image_check.specs.declared.cause.Cause.{Cause}
use Rattle.image_check.specs.RunViews.{RunView}
use Rattle.image_check.specs.Verdicts.{IsVerdict, IsVerdictBetween}
use Rattle.verdict.specs.declared.moment_verdict.verdict.Verdict.{Verdict}
use Rattle.verdict.specs.declared.moment_verdict.verdict.Verdict.TheVariants as runs

-- what a pass says of every cut of every moment
pub all_pass : (plan : List Operation) (start : List (List ℕ)) (events : List Event) (number : ℕ) (images : Option ℕ) →
    IsVerdict plan start events (runs.Pass number images) →
    (moment : ℕ) (cut : List (ℕ × ℕ)) → moment ≤ length events → IsCut (at_moment events moment) cut →
    (found : List (List Entry)) × (volume_of (image start (number_in cut) (at_moment events moment)) ≡ Ok found)
    × IsLegal plan (volume_of start) (take moment events) found
all_pass plan start events number images v moment cut h c =
    let passed : Passes plan start (take moment events) cut = (v.2 moment (omega arith) (omega arith)).1 cut c in
    (passed.volume, passed.recovers, passed.legal)

-- the verdict on some moments of a run, by other names
pub part_of : (run same : RunView) (first from end until : ℕ) (verdict : Verdict Cause) → run ≡ same → first ≡ from → end ≡ until →
    IsVerdictBetween run.plan run.start run.events first end verdict → IsVerdictBetween same.plan same.start same.events from until verdict
part_of run same first from end until verdict e begins ends is =
    subst (λ (r : RunView). IsVerdictBetween r.plan r.start r.events from until verdict) e
    (subst (λ (n : ℕ). IsVerdictBetween run.plan run.start run.events from n verdict) ends
    (subst (λ (n : ℕ). IsVerdictBetween run.plan run.start run.events n end verdict) begins is))
