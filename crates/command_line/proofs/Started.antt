-- What a run that is judged starts from, beside the run.
use Rattle.std.proofs.Common.{◌≡◌, ◌≤◌, Option, None, Some, Ok, ap, refl, subst, sym}
use Rattle.arguments.specs.Line.{IsMachineWithin}
use Rattle.arguments.specs.declared.asked.MostCuts.{MostCuts}
use Rattle.arguments.specs.declared.asked.RightAnswers.{RightAnswers}
use Rattle.arguments.specs.declared.asked.RightAnswers.TheVariants.{Atomic, InTurn, Overlapping}
use Rattle.arguments.specs.declared.asked.ScheduledRun.{ScheduledRun}
use Rattle.machine.specs.declared.recording.setup.Setup.{Setup}
use Rattle.routine_judge.specs.SequentialRuns.{AreSequentialRuns, notes_in}
use Rattle.routine_judge.specs.declared.rule.ProgramRuns.{ProgramRuns}
use Rattle.routine_judge.specs.declared.rule.Rule.TheVariants as rules
use Rattle.every_schedule.specs.Sequential.{program_of}
use Rattle.command_line.specs.Judging.{AreCutsIn, AreReady, IsKeptFor, IsRuleOf, IsStarted, KeepsStart}
use Rattle.command_line.specs.MakingRuns.{MakesRun}
use Rattle.command_line.specs.Reading.{setup_of}
use Rattle.command_line.specs.Traces.{HasPlaces, IsOpen as HasTheirLines, IsOpened, medium_of}
use Rattle.command_line.specs.declared.events.OpenEvents.{OpenEvents}
use Rattle.command_line.specs.declared.events.OpenEvents.TheVariants.{Run, Trace}
use Rattle.command_line.specs.declared.made_run.MadeRun.{MadeRun}
use Rattle.command_line.specs.declared.opened.OpenJudge.{OpenJudge}
use Rattle.command_line.specs.declared.reading.RunFiles.{RunFiles}

-- with `--atomic` the start is kept
kept_start : (right : RightAnswers) (s : Setup) (start : Option Setup) → IsKeptFor right s start → right ≡ Atomic → start ≡ Some s
kept_start InTurn s start kept atomic = absurd cc
kept_start Overlapping s start kept atomic = absurd cc
kept_start Atomic s start kept atomic = kept

pub opened_run : (made : MadeRun) (opened : OpenEvents) → IsOpened made (Ok opened) → opened ≡ Run made
opened_run made opened is = let same = is.opens in cc

pub ready_run : (right : RightAnswers) (run : ScheduledRun) (files : RunFiles) (made : MadeRun) (start : Option Setup) (opened : OpenEvents)
    → IsMachineWithin run.machine → KeepsStart right (setup_of run files) (Ok start) → MakesRun (setup_of run files) files (Ok made)
    → IsOpened made (Ok opened) → HasTheirLines opened → HasPlaces opened → AreReady right start opened
ready_run right run files made start opened within keeps makes is lines places = record {
  lines = lines;
  places = places;
  started = subst (λ (events : OpenEvents). IsStarted events right start) (sym (opened_run made opened is)) (
    rw makes.makes.is_run.setup_is within.harts.1,
    λ atomic. rw makes.makes.is_run.setup_is (kept_start right (setup_of run files) start keeps.keeps atomic),
  );
}

-- power cuts in recovery may be asked for of it
pub cuts_of_run : (made : MadeRun) (opened : OpenEvents) (cuts : Option MostCuts) → IsOpened made (Ok opened) → AreCutsIn opened cuts
cuts_of_run made opened cuts is = subst (λ (events : OpenEvents). AreCutsIn events cuts) (sym (opened_run made opened is)) tt

-- it is there where sequential runs are asked for
pub start_there : (opened : OpenEvents) (right : RightAnswers) → IsStarted opened right None → right ≡ Atomic → ⊥
start_there (Run made) right started atomic = let none = started.1 atomic in cc
start_there (Trace trace) right started atomic = started atomic

-- and is that of the run
run_started : (made : MadeRun) (s : Setup) → IsStarted (Run made) Atomic (Some s) → s ≡ made.run.setup
run_started made s started = let some = started.1 refl in cc

medium_started : (opened : OpenEvents) (s : Setup) → IsStarted opened Atomic (Some s) → s.medium ≡ medium_of opened
medium_started (Run made) s started = ap (λ (one : Setup). one.medium) (run_started made s started)
medium_started (Trace trace) s started = absurd (started refl)

pub few_started : (opened : OpenEvents) (s : Setup) → IsStarted opened Atomic (Some s) → s.harts ≤ 8
few_started (Run made) s started = rw (run_started made s started) started.0
few_started (Trace trace) s started = absurd (started refl)

-- all sequential runs of the program give a rule by which it is judged so
pub rule_of_runs : (judge : OpenJudge) (runs : ProgramRuns) (s : Setup) → judge.start ≡ Some s → AreReady judge.command.right judge.start judge.events
    → judge.command.right ≡ Atomic → runs.program.now ≡ s.program → runs.harts ≡ s.harts
    → AreSequentialRuns (program_of s judge.recovery judge.command.steps) (notes_in runs.runs.now) → IsRuleOf judge (rules.Atomic runs)
rule_of_runs judge runs s start ready atomic program harts noted = record {
  overlap = rw atomic refl;
  right = rw (atomic, start, program, harts) refl;
  noted = rw (program, harts, sym (medium_started judge.events s (rw (atomic, start) at ready.started))) noted;
}
