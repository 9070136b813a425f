-- A run that a search finds is one of the program that it judges.
use Rattle.std.proofs.Common.{List, ℕ, subst, sym}
use Rattle.crash_test.specs.Programs.{IsProgramOf}
use Rattle.every_schedule.specs.EverySchedule.{IsFoundBy}
use Rattle.every_schedule.specs.declared.outcome.Finding.{Finding}
use Rattle.every_schedule.specs.declared.outcome.Outcome.{Outcome}
use Rattle.every_schedule.specs.declared.outcome.Outcome.TheVariants.{Found, Pass, TooMany}
use Rattle.machine.specs.RunValues.{RunView}
use Rattle.machine.specs.declared.recording.setup.Setup.{Setup}
use Rattle.command_line.specs.AllSchedules.{IsOfFile}

pub of_file : {Cause Fault : Type 0} (said : RunView → Finding Cause Fault → Type 0) (s : Setup) (file : List ℕ) (outcome : Outcome Cause Fault)
    → IsProgramOf file s.program → IsFoundBy said s outcome → IsOfFile file outcome
of_file said s file (Found run finding) program found = subst (λ (setup : Setup). IsProgramOf file setup.program) (sym found.0.1.setup_is) program
of_file said s file (Pass states moments) program found = tt
of_file said s file (TooMany bound) program found = tt
