-- What is printed of what was found of every schedule of a program, whatever judges a run.
use Rattle.std.specs.Prelude.{◌≡◌, ◌⊎◌, ◌++◌, ℕ, Bool, true, false, List, [], Option, Result, Ok, Err, MatchResult, codes, decimal, string_bytes}
use Rattle.std.specs.declared.alloc.Global.{Global}
use Rattle.std.specs.declared.vec.Vec.{Vec}
use Rattle.std.specs.Io.KnownBytes.{Appends}
use Rattle.arguments.specs.declared.asked.JudgedProgram.{JudgedProgram}
use Rattle.crash_test.specs.Losses.{IsExplainedBy}
use Rattle.crash_test.specs.Origins.{origin_of}
use Rattle.crash_test.specs.Programs.{IsProgramOf}
use Rattle.crash_test.specs.declared.losses.ExplainedImage.{ExplainedImage}
use Rattle.debugger.specs.StreamFailures.{AppendsFront}
use Rattle.every_schedule.specs.declared.outcome.Bound.{Bound}
use Rattle.every_schedule.specs.declared.outcome.Bound.TheVariants as bounds
use Rattle.every_schedule.specs.declared.outcome.Finding.{Finding}
use Rattle.every_schedule.specs.declared.outcome.Finding.TheVariants as findings
use Rattle.every_schedule.specs.declared.outcome.Outcome.{Outcome}
use Rattle.every_schedule.specs.declared.outcome.Outcome.TheVariants as outcomes
use Rattle.machine.specs.declared.schedule.items.Item.{Item}
use Rattle.report.specs.Causes.{unfinished_text}
use Rattle.schedule_states.specs.Watching.{HasHeard}
use Rattle.unfinished.specs.declared.unfinished.Unfinished.{Unfinished}
use Rattle.verdict.specs.declared.moment_verdict.verdict.Verdict.{Verdict}
use Rattle.command_line.specs.Naming.{named_schedule}
use Rattle.command_line.specs.Progress.{IsToldIf, Progresses, gets_states_line}
use Rattle.command_line.specs.Reasons.{Explains, told_image}
use Rattle.command_line.specs.Reports.{line_end}
use Rattle.command_line.specs.Verdicts.{failing, told_verdict, verdict_status}
use Rattle.command_line.specs.declared.answer.Conclusion.{Conclusion}
use Rattle.command_line.specs.declared.answer.Conclusion.TheVariants as conclusions
use Rattle.command_line.specs.declared.failure.Failure.{Failure}
use Rattle.command_line.specs.declared.failure.Failure.TheVariants as failures
use Rattle.command_line.specs.declared.failure.Refusal.{Refusal}
use Rattle.command_line.specs.declared.made_run.MadeRun.{MadeRun}

-- how many states had been met was reported
abbrev pub TellsStates : Option (List ℕ) → Option (List ℕ) → Type 0
TellsStates = Progresses (HasHeard gets_states_line [])

-- what a search finds, and what standard error got on the way
pub record WatchesAll {E Found : Type 0} (said : E → Option (List ℕ)) (judged : JudgedProgram) (finds : Result Found Failure → Type 0) (errors : E)
    (outcome : Result Found Failure) (errors' : E) : Type 0 where
  pub searches : finds outcome
  pub told : IsToldIf judged.progress (TellsStates (said errors) (said errors')) errors errors'

-- `pass states=N moments=N`
abbrev pub pass_line : ℕ → ℕ → List ℕ
pass_line states moments = codes "pass states=" ++ (decimal states ++ (codes " moments=" ++ (decimal moments ++ line_end)))

-- `{"kind":"pass","states":N,"moments":N}`
abbrev pub pass_json : ℕ → ℕ → List ℕ
pass_json states moments =
    codes "{\"kind\":\"pass\",\"states\":" ++ (decimal states ++ (codes ",\"moments\":" ++ (decimal moments ++ (codes "}" ++ line_end))))

abbrev pub told_pass : Bool → ℕ → ℕ → List ℕ
told_pass true states moments = pass_json states moments
told_pass false states moments = pass_line states moments

-- the bound that a search came to, with the most states that it was to meet
abbrev pub bound_line : ℕ → Bound → List ℕ
bound_line states bounds.States = codes "too many states=" ++ (decimal states ++ line_end)
bound_line states bounds.Sequential = codes "too many sequential" ++ line_end
bound_line states bounds.Steps = codes "too many steps" ++ line_end
bound_line states bounds.Events = codes "too many events" ++ line_end

abbrev pub bound_json : ℕ → Bound → List ℕ
bound_json states bounds.States = codes "{\"kind\":\"too many states\",\"states\":" ++ (decimal states ++ (codes "}" ++ line_end))
bound_json states bounds.Sequential = codes "{\"kind\":\"too many sequential\"}" ++ line_end
bound_json states bounds.Steps = codes "{\"kind\":\"too many steps\"}" ++ line_end
bound_json states bounds.Events = codes "{\"kind\":\"too many events\"}" ++ line_end

abbrev pub told_bound : Bool → ℕ → Bound → List ℕ
told_bound true states bound = bound_json states bound
told_bound false states bound = bound_line states bound

-- an answer of this text and status
abbrev pub IsAnswered : List ℕ → ℕ → Conclusion → Type 0
IsAnswered text status (conclusions.Answered answer) = (answer.text.items ≡ text) × (answer.status ≡ status)
IsAnswered text status (conclusions.Refused schedule failure) = ⊥

-- the text of a schedule, and the failure on which its run ends
abbrev pub IsRefused : List ℕ → (Failure → Type 0) → Conclusion → Type 0
IsRefused text fails (conclusions.Answered answer) = ⊥
IsRefused text fails (conclusions.Refused schedule failure) = (string_bytes schedule ≡ text) × fails failure

-- so it is with what is concluded; memory for that may be refused
pub record Concludes (is_so : Conclusion → Type 0) (outcome : Result Conclusion Failure) : Type 0 where
  pub concludes : MatchResult outcome is_so (λ failure. failure ≡ failures.Memory)

-- a line for each of these is reported
abbrev pub ReportsCauses : List ℕ → List Unfinished → Failure → Type 0
ReportsCauses file causes (failures.Unfinished text) = string_bytes text ≡ unfinished_text (origin_of file) causes
ReportsCauses file causes failure = ⊥

-- how what is found of a run is told: by the lines that a recovery reads of an image, the text of a cause, and what is refused for a wrong mark
pub record Telling (Cause Fault : Type 0) : Type 1 where
  pub reads : List (List ℕ) → List ℕ → Type 0
  pub cause : Cause → List ℕ
  pub refused : Fault → Refusal

abbrev pub told_by : {Cause Fault : Type 0} → (List (List ℕ) → List ℕ → Type 0) → (Cause → List ℕ) → (Fault → Refusal) → Telling Cause Fault
told_by reads cause refused = record { reads = reads; cause = cause; refused = refused }

-- `no way out`, or `{"kind":"no way out"}`
abbrev pub stuck_line : Bool → List ℕ
stuck_line true = codes "{\"kind\":\"no way out\"}" ++ line_end
stuck_line false = codes "no way out" ++ line_end

-- behind this schedule there is none
abbrev pub told_stuck : Bool → List Item → List ℕ
told_stuck json schedule = stuck_line json ++ named_schedule json (codes "schedule") schedule

-- the lines of a verdict on a run that was found: the verdict, the schedule of the run, and what a failing image lacks and keeps, where that is
-- explained
abbrev pub told_run : {Cause : Type 0} → (Cause → List ℕ) → Bool → MadeRun → Verdict Cause → Option ExplainedImage → List ℕ
told_run cause json made verdict why =
    told_verdict cause json verdict ++ (named_schedule json (codes "schedule") made.run.schedule ++ told_image json made why)

abbrev pub TellsWhy : {Cause : Type 0} → (Cause → List ℕ) → Bool → MadeRun → Verdict Cause → Result (Option ExplainedImage) Failure
    → Result Conclusion Failure → Type 0
TellsWhy cause json made verdict (Ok why) outcome = Concludes (IsAnswered (told_run cause json made verdict why) (verdict_status verdict)) outcome
TellsWhy cause json made verdict (Err failure) outcome = outcome ≡ Err failure

-- a failing image is explained where that is asked for
pub record TellsVerdict {Cause : Type 0} (reads : List (List ℕ) → List ℕ → Type 0) (cause : Cause → List ℕ) (judged : JudgedProgram) (made : MadeRun)
    (verdict : Verdict Cause) (outcome : Result Conclusion Failure) : Type 0 where
  pub why : Result (Option ExplainedImage) Failure
  pub explains : Explains (IsExplainedBy reads made.run) made.run.events (failing judged.why verdict) why
  pub told : TellsWhy cause judged.json made verdict why outcome

-- what is printed of a run, by what is found of it
abbrev pub TellsFinding : {Cause Fault : Type 0} → Telling Cause Fault → JudgedProgram → MadeRun → Finding Cause Fault → Result Conclusion Failure → Type 0
TellsFinding telling judged made (findings.Verdict verdict) = TellsVerdict telling.reads telling.cause judged made verdict
TellsFinding telling judged made (findings.Refused fault) =
    Concludes (IsRefused (named_schedule judged.json (codes "schedule") made.run.schedule) (λ failure. failure ≡ failures.Refused (telling.refused fault)))
TellsFinding telling judged made (findings.NotWhole causes) =
    Concludes (IsRefused (named_schedule judged.json (codes "schedule") made.run.schedule) (ReportsCauses made.file.items causes.items))
TellsFinding telling judged made findings.NoWayOut = Concludes (IsAnswered (told_stuck judged.json made.run.schedule) 1)

-- what is printed of what the search found
abbrev pub TellsOutcome : {Cause Fault : Type 0} → Telling Cause Fault → JudgedProgram → Vec ℕ Global → Outcome Cause Fault → Result Conclusion Failure
    → Type 0
TellsOutcome telling judged file (outcomes.Pass states moments) = Concludes (IsAnswered (told_pass judged.json states moments) 0)
TellsOutcome telling judged file (outcomes.Found run finding) = TellsFinding telling judged (record { file = file; run = run }) finding
TellsOutcome telling judged file (outcomes.TooMany bound) = Concludes (IsAnswered (told_bound judged.json judged.states bound) 3)

-- what is known of what was found of the program in a file: a run is one of this program
abbrev pub IsOfFile : {Cause Fault : Type 0} → List ℕ → Outcome Cause Fault → Type 0
IsOfFile file (outcomes.Found run finding) = IsProgramOf file run.setup.program
IsOfFile file (outcomes.Pass states moments) = Unit {0}
IsOfFile file (outcomes.TooMany bound) = Unit {0}

-- a text is printed, and then this failure is to be reported, or standard output couldn't be written, and holds a front of the text
pub record FailsBehind {W : Type 0} (contents : W → Option (List ℕ)) (old new : W) (text : List ℕ) (failure told : Failure) : Type 0 where
  pub fails : ((told ≡ failure) × Appends (contents old) (contents new) text)
      ⊎ ((told ≡ failures.File) × AppendsFront (contents old) (contents new) text)
