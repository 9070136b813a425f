-- The verdict on a moment and on a row of moments, by the answers of a recovery routine.
-- Source: Vinter, USENIX ATC 2022: every crash image is recovered, and the state that shows is judged.
use Rattle.std.specs.Prelude.{◌≡◌, ◌≢◌, ◌⊎◌, ℕ, ◌+◌, ◌<◌, List, [], length, max, min, is_some, true}
use Rattle.std.specs.List.{position_from}
use Rattle.std.specs.Option.{option_map_or}
use Rattle.store_trace.specs.Marks.{begun, begun_by}
use Rattle.routine_judge.specs.RightAnswers.{AsksOf, IsFoundOf, IsSource, RunsOn, Source, same_bytes}
use Rattle.routine_judge.specs.Views.{JudgeView}
use Rattle.routine_judge.specs.declared.cause.Cause.{Cause}
use Rattle.routine_judge.specs.declared.fault.JudgeFault.{JudgeFault}
use Rattle.routine_judge.specs.declared.fault.JudgeFault.TheVariants as faults
use Rattle.routine_judge.specs.MarkFaults.{AreSound, HasSoundBegin, IsFault}
use Rattle.routine_judge.specs.declared.history.fault.MarkFault.TheVariants as marks
use Rattle.routine_judge.specs.declared.history.overlap.Overlap.{Overlap}
use Rattle.verdict.specs.Verdicts.{IsMomentVerdict}
use Rattle.verdict.specs.declared.moment_verdict.verdict.MomentVerdict.{MomentVerdict}
use Rattle.verdict.specs.declared.moment_verdict.verdict.MomentVerdict.TheVariants as moments
use Rattle.store_trace.specs.History.{at_moment}
use Rattle.store_trace.specs.declared.event.Event.{Event}

-- The verdict on moment m: branches are opened by the bytes that the routine asks, and the answers on the full images from where the
-- moment's right answers come are the right ones. Where the routine runs on on one of these, it is too long.
pub record IsJudged (view : JudgeView) (m : ℕ) (verdict : MomentVerdict Cause) : Type 0 where
  pub source : Source
  pub is_source : IsSource view m source
  pub judged : ((verdict ≡ moments.TooLong) × RunsOn view source)
      ⊎ ((¬ RunsOn view source)
      × IsMomentVerdict true (same_bytes view m) (AsksOf view m) (IsFoundOf view source m) (at_moment view.events m) verdict)

-- the first moment that is judged: right after the first Begin, and past the last moment where there is none
abbrev pub first_judged : List Event → ℕ
first_judged events = option_map_or (λ at. at + 1) (position_from (λ event. is_some (begun_by event)) 0 events) (length events + 1)

-- of the moments from `first` on that are below `end`, the first that is judged, and `end` where none is
abbrev pub judged_from : List Event → ℕ → ℕ → ℕ
judged_from events first end = min (max first (first_judged events)) end

-- Why there is no verdict on the moments from this one on: a wrong mark or that there is none, then that the moment isn't one of the run.
-- A growth is refused behind marks that are right, one of which begins an operation.
abbrev pub IsRefusal : Overlap → List Event → ℕ → JudgeFault → Type 0
IsRefusal overlap events first (faults.Marks fault) = IsFault overlap events fault × (fault ≢ marks.Memory)
IsRefusal overlap events first faults.NoSuchMoment =
    AreSound overlap events (length events) × (begun events ≢ []) × (length events < first)
IsRefusal overlap events first faults.Memory = HasSoundBegin overlap events
