-- What a line of the program comes to: an answer or a failure, and how it is delivered.
use Rattle.std.specs.Prelude.{◌≡◌, ◌⊎◌, ℕ, List, Option, Result, Ok, Err, IfErr, MatchResult, OnOk, string_bytes}
use Rattle.std.specs.Io.KnownBytes.{Appends}
use Rattle.std.specs.Result.{result_map_both}
use Rattle.arguments.specs.Line.{IsCommand, Refuses}
use Rattle.arguments.specs.declared.asked.Command.{Command}
use Rattle.arguments.specs.declared.asked.Command.TheVariants.{Answer as AnswerCommand, Ask, Assemble, Check, CheckAll, Code, Debug, Explain, Image, Images, Interleave, Judge, JudgeAll, Listing, MakeVolume, Picture, Program, Replay, Run, Show, Trace, Unpersisted, Upgrade, Waste}
use Rattle.arguments.specs.declared.asked.LineFault.{LineFault}
use Rattle.arguments.specs.declared.asked.LineFault.TheVariants as line_faults
use Rattle.debugger.specs.StreamFailures.{AppendsFront}
use Rattle.command_line.specs.Answering.{AnswersFile}
use Rattle.command_line.specs.Asking.{IsOpenAsk, JudgesAsked, OpensAsk}
use Rattle.command_line.specs.Assembling.{AssemblesFile}
use Rattle.command_line.specs.Checking.{IsOpen, JudgesCheck, OpensCheck}
use Rattle.command_line.specs.AllSchedules.{FailsBehind}
use Rattle.command_line.specs.CheckingAll.{ChecksAll, IsOpen as IsOpenCheckAll, OpensCheckAll}
use Rattle.command_line.specs.Coding.{code_text}
use Rattle.command_line.specs.Debugging.{DebugsFile, IsOpen as IsOpenDebug, OpensFile}
use Rattle.command_line.specs.Drawing.{InterleavesFile}
use Rattle.command_line.specs.Explaining.{ExplainsFile}
use Rattle.command_line.specs.Failures.{failure_status}
use Rattle.command_line.specs.ImageFiles.{ImageFile}
use Rattle.command_line.specs.Imaging.{CountsFile}
use Rattle.command_line.specs.Judging.{IsOpen as IsOpenJudge, OpensJudge}
use Rattle.command_line.specs.JudgingRuns.{JudgesRun}
use Rattle.command_line.specs.JudgingAll.{IsOpen as IsOpenJudgeAll, JudgesAll, OpensJudgeAll}
use Rattle.command_line.specs.Listing.{ListsFile}
use Rattle.command_line.specs.Making.{MakesFile}
use Rattle.command_line.specs.Noting.{GetsNotes, JudgesNoted, NotesCheck, NotesJudge}
use Rattle.command_line.specs.Persisting.{UnpersistedFile}
use Rattle.command_line.specs.Picturing.{PicturesFile}
use Rattle.command_line.specs.Running.{ReplaysFile, RunsFile}
use Rattle.command_line.specs.Showing.{ShowsFile}
use Rattle.command_line.specs.Sizes.{SizesFile}
use Rattle.command_line.specs.Steps.{Prints, Reads, Step, Still, Writes}
use Rattle.command_line.specs.Telling.{TellsFailure, Words, plain_texts}
use Rattle.command_line.specs.Tracing.{TracesFile}
use Rattle.command_line.specs.Wasting.{WasteFile}
use Rattle.command_line.specs.Upgrading.{UpgradesFile}
use Rattle.command_line.specs.declared.answer.Action.{Action}
use Rattle.command_line.specs.declared.answer.Action.TheVariants as actions
use Rattle.command_line.specs.declared.answer.Answer.{Answer}
use Rattle.command_line.specs.declared.answer.Conclusion.{Conclusion}
use Rattle.command_line.specs.declared.answer.Conclusion.TheVariants.{Answered, Refused}
use Rattle.command_line.specs.declared.failure.Failure.{Failure}
use Rattle.command_line.specs.declared.opened.OpenAsk.{OpenAsk}
use Rattle.command_line.specs.declared.opened.OpenCheck.{OpenCheck}
use Rattle.command_line.specs.declared.opened.OpenJudge.{OpenJudge}
use Rattle.command_line.specs.declared.failure.Failure.TheVariants.{Line, Memory, File}

-- what is found over the files says what is done on the standard streams
pub record LeadsTo {F A : Type 0} (finds : Step F A) (action : A → Action) (old : F) (outcome : Result Action Failure) (new : F) : Type 0 where
  pub found : Result A Failure
  pub finding : finds old found new
  pub leads : outcome ≡ result_map_both action (λ failure. failure) found

-- what a command comes to
abbrev pub CarriesOut : {F : Type 0} → Reads F → Writes F → Command → Step F Action
CarriesOut reads writes (Assemble command) = LeadsTo (AssemblesFile reads writes command) actions.Print
CarriesOut reads writes (MakeVolume command) = LeadsTo (MakesFile reads writes command) actions.Print
CarriesOut reads writes (Upgrade command) = LeadsTo (UpgradesFile reads writes command) actions.Print
CarriesOut reads writes (Run command) = LeadsTo (RunsFile reads writes command) actions.Print
CarriesOut reads writes (Replay command) = LeadsTo (ReplaysFile reads writes command) actions.Print
CarriesOut reads writes (Debug command) = LeadsTo (OpensFile reads command) actions.Debug
CarriesOut reads writes (Trace command) = LeadsTo (TracesFile reads command) actions.Print
CarriesOut reads writes (Unpersisted command) = LeadsTo (UnpersistedFile reads command) actions.PrintNoted
CarriesOut reads writes (Waste command) = LeadsTo (WasteFile reads command) actions.PrintNoted
CarriesOut reads writes (Images command) = LeadsTo (CountsFile reads command) actions.Print
CarriesOut reads writes (Image command) = LeadsTo (ImageFile reads writes command) actions.Print
CarriesOut reads writes (Explain command) = LeadsTo (ExplainsFile reads command) actions.Print
CarriesOut reads writes (Check command) = LeadsTo (OpensCheck reads command) actions.Check
CarriesOut reads writes (Judge command) = LeadsTo (OpensJudge reads command) actions.Judge
CarriesOut reads writes (Ask command) = LeadsTo (OpensAsk reads command) actions.Ask
CarriesOut reads writes (CheckAll command) = LeadsTo (OpensCheckAll reads command) actions.CheckAll
CarriesOut reads writes (JudgeAll command) = LeadsTo (OpensJudgeAll reads command) actions.JudgeAll
CarriesOut reads writes (AnswerCommand command) = LeadsTo (AnswersFile reads command) actions.Print
CarriesOut reads writes (Picture command) = LeadsTo (PicturesFile reads writes command) actions.Print
CarriesOut reads writes (Interleave command) = LeadsTo (InterleavesFile reads command) actions.Print
CarriesOut reads writes (Show command) = LeadsTo (ShowsFile reads command) actions.Print
CarriesOut reads writes (Listing command) = LeadsTo (ListsFile reads command) actions.Print
CarriesOut reads writes (Program command) = LeadsTo (SizesFile reads command) actions.Print
CarriesOut reads writes (Code command) = LeadsTo (Still (Prints (code_text command.meaning) 0)) actions.Print

-- what is known of what is left to be done: of a verdict, that its files have been read
abbrev pub IsReady : Action → Type 0
IsReady (actions.Print answer) = Unit {0}
IsReady (actions.PrintNoted noted) = Unit {0}
IsReady (actions.Check check) = IsOpen check
IsReady (actions.Judge judge) = IsOpenJudge judge
IsReady (actions.Ask ask) = IsOpenAsk ask
IsReady (actions.CheckAll check) = IsOpenCheckAll check
IsReady (actions.JudgeAll judge) = IsOpenJudgeAll judge
IsReady (actions.Debug debug) = IsOpenDebug debug

-- the text is to be printed with status 0
pub record ShowsHelp (text : List ℕ) (action : Action) : Type 0 where
  pub answer : Answer
  pub prints : action ≡ actions.Print answer
  pub text_is : answer.text.items ≡ text
  pub done : answer.status ≡ 0

-- what a line comes to that asks for no command
abbrev pub AnswersFault : LineFault → Result Action Failure → Type 0
AnswersFault (line_faults.Help text) outcome = MatchResult outcome (ShowsHelp (string_bytes text)) (λ failure. ⊥)
AnswersFault (line_faults.Fault text) outcome = outcome ≡ Err (Line text)
AnswersFault line_faults.Memory outcome = outcome ≡ Err Memory

-- what a line comes to: it asks for a command, which is carried out, or for none, and then no file is read or written
pub record IsCarriedOut {F : Type 0} (reads : Reads F) (writes : Writes F)
    (words : List (List ℕ)) (old new : F) (outcome : Result Action Failure) (command : Command) : Type 0 where
  pub asked : IsCommand words command
  pub carried_out : CarriesOut reads writes command old outcome new

pub record IsTurnedAway {F : Type 0} (words : List (List ℕ)) (old new : F) (outcome : Result Action Failure)
    (fault : LineFault) : Type 0 where
  pub refused : Refuses words fault
  pub answered : AnswersFault fault outcome
  pub untouched : new ≡ old

abbrev pub ComesTo : {F : Type 0} → Reads F → Writes F → List (List ℕ) → F → F → Result Action Failure → Type 0
ComesTo reads writes words old new outcome = ((command : Command) × IsCarriedOut reads writes words old new outcome command)
    ⊎ ((fault : LineFault) × IsTurnedAway words old new outcome fault)

-- an answer goes to standard output, and its status is the program's, or else standard output couldn't be written, and holds a
-- front of the answer.
-- `contents` is what is known of the bytes that a writer holds
abbrev pub IsPrinted : {W : Type 0} → (W → Option (List ℕ)) → W → W → Answer → Result ℕ Failure → Type 0
IsPrinted contents old new answer (Ok status) = (status ≡ answer.status) × Appends (contents old) (contents new) answer.text.items
IsPrinted contents old new answer (Err failure) = (failure ≡ File) × AppendsFront (contents old) (contents new) answer.text.items

-- what is found is printed, and of a failure nothing is
abbrev pub IsPrintedIf : {W : Type 0} → (W → Option (List ℕ)) → W → W → Result Answer Failure → Result ℕ Failure → Type 0
IsPrintedIf contents old new (Ok answer) ended = IsPrinted contents old new answer ended
IsPrintedIf contents old new (Err failure) ended = (ended ≡ Err failure) × (new ≡ old)

-- what is found of a check whose files have been read, printed, once standard error has got the notes; `said` is what is known of the bytes that standard error holds
pub record DeliversCheck {W E : Type 0} (contents : W → Option (List ℕ)) (said : E → Option (List ℕ)) (check : OpenCheck) (old new : W) (errors errors' : E)
    (ended : Result ℕ Failure) : Type 0 where
  pub found : Result Answer Failure
  pub judges : JudgesNoted said (NotesCheck check) (JudgesCheck said check) errors found errors'
  pub printed : IsPrintedIf contents old new found ended

-- the same of a run that is judged by a recovery routine
pub record DeliversJudge {W E : Type 0} (contents : W → Option (List ℕ)) (said : E → Option (List ℕ)) (judge : OpenJudge) (old new : W) (errors errors' : E)
    (ended : Result ℕ Failure) : Type 0 where
  pub found : Result Answer Failure
  pub judges : JudgesNoted said (NotesJudge judge) (JudgesRun said judge) errors found errors'
  pub printed : IsPrintedIf contents old new found ended

-- the same of events that are judged by answers, which are asked for on standard output, and read from standard input. `remaining` is what is
-- known of the bytes that a reader will still give
pub record DeliversAsk {R W E : Type 0} (remaining : R → Option (List ℕ)) (contents : W → Option (List ℕ)) (said : E → Option (List ℕ)) (ask : OpenAsk)
    (old new : R × W) (errors errors' : E) (ended : Result ℕ Failure) : Type 0 where
  pub found : Result Answer Failure
  pub between : W
  pub judges : JudgesAsked said ask (remaining old.0, contents old.1) (remaining new.0, contents between) errors found errors'
  pub printed : IsPrintedIf contents between new.1 found ended

-- what is concluded is printed: an answer, or a schedule and behind it the failure of its run; of a failure nothing is
abbrev pub IsConcluded : {W : Type 0} → (W → Option (List ℕ)) → W → W → Result Conclusion Failure → Result ℕ Failure → Type 0
IsConcluded contents old new (Ok (Answered answer)) ended = IsPrinted contents old new answer ended
IsConcluded contents old new (Ok (Refused schedule failure)) (Ok status) = ⊥
IsConcluded contents old new (Ok (Refused schedule failure)) (Err told) = FailsBehind contents old new (string_bytes schedule) failure told
IsConcluded contents old new (Err failure) ended = (ended ≡ Err failure) × (new ≡ old)

-- what is found of every schedule of a program whose files have been read, printed
pub record DeliversConclusion {W E : Type 0} (contents : W → Option (List ℕ)) (judges_all : Step E Conclusion) (old new : W) (errors errors' : E)
    (ended : Result ℕ Failure) : Type 0 where
  pub found : Result Conclusion Failure
  pub judges : judges_all errors found errors'
  pub printed : IsConcluded contents old new found ended

-- what is done on standard input and standard output, a pair, and on standard error before a failure is told: an answer is printed, a run
-- is judged, or a session is held; but for `--ask` nothing else reads standard input, and a failure of a command leaves all as they are
abbrev pub Delivers : {R W E : Type 0} → (R → Option (List ℕ)) → (W → Option (List ℕ)) → (E → Option (List ℕ)) → R × W → R × W → E → E
    → Result Action Failure → Result ℕ Failure → Type 0
Delivers remaining contents said old new errors errors' (Ok (actions.Print answer)) ended =
    (new.0 ≡ old.0) × IsPrinted contents old.1 new.1 answer ended × (errors' ≡ errors)
Delivers remaining contents said old new errors errors' (Ok (actions.PrintNoted noted)) ended =
    (new.0 ≡ old.0) × IsPrinted contents old.1 new.1 noted.answer ended × GetsNotes said noted.notes.items errors errors'
Delivers remaining contents said old new errors errors' (Ok (actions.Check check)) ended =
    (new.0 ≡ old.0) × DeliversCheck contents said check old.1 new.1 errors errors' ended
Delivers remaining contents said old new errors errors' (Ok (actions.Judge judge)) ended =
    (new.0 ≡ old.0) × DeliversJudge contents said judge old.1 new.1 errors errors' ended
Delivers remaining contents said old new errors errors' (Ok (actions.Ask ask)) ended = DeliversAsk remaining contents said ask old new errors errors' ended
Delivers remaining contents said old new errors errors' (Ok (actions.CheckAll check)) ended =
    (new.0 ≡ old.0) × DeliversConclusion contents (ChecksAll said check) old.1 new.1 errors errors' ended
Delivers remaining contents said old new errors errors' (Ok (actions.JudgeAll judge)) ended =
    (new.0 ≡ old.0) × DeliversConclusion contents (JudgesAll said judge) old.1 new.1 errors errors' ended
Delivers remaining contents said old new errors errors' (Ok (actions.Debug debug)) ended =
    DebugsFile debug (remaining old.0) (remaining new.0) (contents old.1) (contents new.1) ended × (errors' ≡ errors)
Delivers remaining contents said old new errors errors' (Err failure) ended = (ended ≡ Err failure) × (new ≡ old) × (errors' ≡ errors)

-- the status of the program
abbrev pub status_of : Result ℕ Failure → ℕ
status_of (Ok status) = status
status_of (Err failure) = failure_status failure

-- what a line comes to, as it was delivered
pub record Ends {F R W E : Type 0} (reads : Reads F) (writes : Writes F)
    (remaining : R → Option (List ℕ)) (contents : W → Option (List ℕ)) (said : E → Option (List ℕ)) (words : List (List ℕ)) (files files' : F)
    (streams streams' : R × W) (errors errors' : E) (ended : Result ℕ Failure) : Type 0 where
  pub outcome : Result Action Failure
  pub comes : ComesTo reads writes words files files' outcome
  pub delivers : Delivers remaining contents said streams streams' errors errors' outcome ended

-- a status with which the program may end so; behind the answer a failure is told, and standard error stays as it was but for that, for notes, for
-- what `--progress` tells, and for the line of `judge` that no moment is judged. `between` is what answering leaves: the files, standard output and
-- standard error
pub record EndsWith {F R W E : Type 0} (reads : Reads F) (writes : Writes F)
    (remaining : R → Option (List ℕ)) (contents : W → Option (List ℕ)) (said : E → Option (List ℕ)) (words : Words) (files files' : F)
    (streams streams' : R × W) (errors errors' : E) (status : ℕ) : Type 0 where
  pub ended : Result ℕ Failure
  pub between : F × W × E
  pub ends : Ends reads writes remaining contents said (plain_texts words) files between.0 streams (streams'.0, between.1) errors between.2 ended
  pub status_is : status ≡ status_of ended
  pub quiet : OnOk ended ((files', streams'.1, errors') ≡ between)
  pub told : IfErr ended (λ failure. TellsFailure reads contents said words failure between (files', streams'.1, errors'))
