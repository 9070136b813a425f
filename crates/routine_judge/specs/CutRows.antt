-- A row of moments that so many cuts in recovery don't settle.
use Rattle.std.specs.Prelude.{◌≡◌, ℕ, zero, suc, ◌<◌, ◌≤◌, Bool, Option, Some, None}
use Rattle.routine_judge.specs.Chains.{AreSettled}
use Rattle.routine_judge.specs.RightAnswers.{IsSource, RunsOn, Source}
use Rattle.routine_judge.specs.Views.{JudgeView}
use Rattle.routine_judge.specs.declared.cuts.judging.CutCause.{CutCause}
use Rattle.routine_judge.specs.declared.cuts.row.RowEnd.{RowEnd}
use Rattle.routine_judge.specs.declared.cuts.row.Why.TheVariants.{Bad, TooMany, TooLong}
use Rattle.routine_judge.specs.declared.cuts.outcome.RecoveryCuts.{RecoveryCuts}
use Rattle.routine_judge.specs.declared.cuts.outcome.RecoveryCuts.TheVariants.{AtMost, Any}
use Rattle.verdict.specs.declared.moment_verdict.verdict.Verdict.{Verdict}
use Rattle.verdict.specs.declared.moment_verdict.verdict.Verdict.TheVariants as runs

-- where a moment is too long, the routine runs on on a full image that would give a right answer
abbrev pub IsLongEnd : JudgeView → RowEnd → Type 0
IsLongEnd view end = end.why ≡ TooLong → (source : Source) × IsSource view end.moment source × RunsOn view source

-- this moment of the row is the least that isn't settled
pub record IsRowEnd (goes_on : Bool) (view : JudgeView) (most : Option ℕ) (first until : ℕ) (end : RowEnd) : Type 0 where
  pub from : first ≤ end.moment
  pub there : end.moment < until
  pub before : AreSettled goes_on view most first end.moment
  pub long : IsLongEnd view end

-- the row is settled, or this is the least moment that isn't
abbrev pub IsEndBy : Bool → JudgeView → Option ℕ → ℕ → ℕ → Option RowEnd → Type 0
IsEndBy goes_on view most first until None = AreSettled goes_on view most first until
IsEndBy goes_on view most first until (Some end) = IsRowEnd goes_on view most first until end

-- the least moment that isn't settled by a verdict
abbrev pub end_in : Verdict CutCause → Option RowEnd
end_in (runs.Pass moments images) = None
end_in (runs.Open moments images told) = None
end_in (runs.Fail m name cause of_too_many) = Some (record { moment = m; why = Bad })
end_in (runs.TooMany m named) = Some (record { moment = m; why = TooMany })
end_in (runs.TooLong m) = Some (record { moment = m; why = TooLong })

-- how many numbers of cuts are tried before as many as are asked for
abbrev pub times_of : RecoveryCuts → ℕ
times_of (AtMost most) = most
times_of Any = 65

-- one less than a number, where there is one
abbrev pub less_one : ℕ → Option ℕ
less_one zero = None
less_one (suc n) = Some n
