-- What a run shows.
use Rattle.std.specs.Prelude.{◌≡◌}
use Rattle.image_check.specs.declared.cause.Cause.{Cause}
use Rattle.image_check.specs.declared.fault.OpFault.{OpFault}
use Rattle.verdict.specs.declared.moment_verdict.verdict.Verdict.{Verdict}
use Rattle.every_schedule.specs.EverySchedule.{IsNoPass}
use Rattle.every_schedule.specs.declared.outcome.Finding.{Finding}
use Rattle.every_schedule.specs.declared.outcome.Finding.TheVariants as findings
use Rattle.every_schedule.specs.declared.outcome.Outcome.{Outcome}
use Rattle.every_schedule.specs.declared.outcome.Outcome.TheVariants as outcomes

-- the outcome is no pass
abbrev pub PassesNot : {C F : Type 0} → Outcome C F → Type 0
PassesNot (outcomes.Pass states moments) = ⊥
PassesNot (outcomes.Found run finding) = Unit {0}
PassesNot (outcomes.TooMany bound) = Unit {0}

-- the finding is this verdict, which isn't that of a pass
abbrev pub IsVerdictThat : Verdict Cause → Finding Cause OpFault → Type 0
IsVerdictThat verdict finding = (finding ≡ findings.Verdict verdict) × IsNoPass verdict
