-- Which command a line asks for, by what clap's specification says of its words.
use Rattle.std.specs.Prelude.{string_bytes, ◌≡◌, ◌≢◌, ◌≤◌, ◌<◌, ◌^◌, ◌⊎◌, ℕ, Bool, true, false, List, [], ◌∷◌, Option, Some, None, IfSome, codes, ⊤}
use Rattle.clap.specs.Words.{Row, Text, fault_of, first_of, subcommand_of}
use Rattle.clap.specs.Kinds.{IsAmong}
use Rattle.clap.specs.declared.error.ErrorKind.{ErrorKind}
use Rattle.clap.specs.declared.error.ErrorKind.TheVariants as kinds
use Rattle.text.specs.Texts.{IsProper}
use Rattle.arguments.specs.Cuts.{AreFewCuts, IsOptionalCuts}
use Rattle.arguments.specs.Grammar.{grammar_of}
use Rattle.arguments.specs.Spans.{IsOptionalMoments, IsUpward}
use Rattle.arguments.specs.Values.{IsCapacity, IsCodeWord, IsEvictions, IsHarts, IsImageWord, IsNumberWord, IsOptional, IsOptionalImage, IsOptionalNumber, IsRecoverySteps, IsSeed, IsStates, IsSteps, IsWord, IsWorkers, is_set}
use Rattle.arguments.specs.declared.asked.AnswerCommand.{AnswerCommand}
use Rattle.arguments.specs.declared.asked.AssembleCommand.{AssembleCommand}
use Rattle.arguments.specs.declared.asked.CheckAllCommand.{CheckAllCommand}
use Rattle.arguments.specs.declared.asked.CheckCommand.{CheckCommand}
use Rattle.arguments.specs.declared.asked.CodeCommand.{CodeCommand}
use Rattle.arguments.specs.declared.asked.Command.{Command}
use Rattle.arguments.specs.declared.asked.Command.TheVariants.{Answer, Ask, Assemble, Check, CheckAll, Code, Debug, Explain, Image, Images, Interleave, Judge, JudgeAll, Listing, MakeVolume, Picture, Program, Replay, Run, Show, Trace, Unpersisted, Upgrade, Waste}
use Rattle.arguments.specs.declared.asked.DebugCommand.{DebugCommand}
use Rattle.arguments.specs.declared.asked.EventSource.{EventSource}
use Rattle.arguments.specs.declared.asked.EventSource.TheVariants as sources
use Rattle.arguments.specs.declared.asked.ExplainCommand.{ExplainCommand}
use Rattle.arguments.specs.declared.asked.ImageCommand.{ImageCommand}
use Rattle.arguments.specs.declared.asked.ImagesCommand.{ImagesCommand}
use Rattle.arguments.specs.declared.asked.InterleaveCommand.{InterleaveCommand}
use Rattle.arguments.specs.declared.asked.AskCommand.{AskCommand}
use Rattle.arguments.specs.declared.asked.JudgeAllCommand.{JudgeAllCommand}
use Rattle.arguments.specs.declared.asked.JudgeCommand.{JudgeCommand}
use Rattle.arguments.specs.declared.asked.JudgedProgram.{JudgedProgram}
use Rattle.arguments.specs.declared.asked.JudgedRun.{JudgedRun}
use Rattle.arguments.specs.declared.asked.LineFault.{LineFault}
use Rattle.arguments.specs.declared.asked.LineFault.TheVariants.{Help, Fault, Memory}
use Rattle.arguments.specs.declared.asked.ListingCommand.{ListingCommand}
use Rattle.arguments.specs.declared.asked.MachineOptions.{MachineOptions}
use Rattle.arguments.specs.declared.asked.MakeVolumeCommand.{MakeVolumeCommand}
use Rattle.arguments.specs.declared.asked.MostCuts.{MostCuts}
use Rattle.arguments.specs.declared.asked.PictureCommand.{PictureCommand}
use Rattle.arguments.specs.declared.asked.ProgramCommand.{ProgramCommand}
use Rattle.arguments.specs.declared.asked.ReplayCommand.{ReplayCommand}
use Rattle.arguments.specs.declared.asked.ReportCommand.{ReportCommand}
use Rattle.arguments.specs.declared.asked.RightAnswers.{RightAnswers}
use Rattle.arguments.specs.declared.asked.RightAnswers.TheVariants.{Atomic, InTurn, Overlapping}
use Rattle.arguments.specs.declared.asked.RunCommand.{RunCommand}
use Rattle.arguments.specs.declared.asked.ScheduledRun.{ScheduledRun}
use Rattle.arguments.specs.declared.asked.ShowCommand.{ShowCommand}
use Rattle.arguments.specs.declared.asked.TraceCommand.{TraceCommand}
use Rattle.arguments.specs.declared.asked.TracedEvents.{TracedEvents}
use Rattle.arguments.specs.declared.asked.UpgradeCommand.{UpgradeCommand}

-- the machine of a command that has no option of a capacity
pub record IsWholeMachine (rows : List Row) (machine : MachineOptions) : Type 0 where
  pub medium : IsOptional (codes "medium") rows machine.medium
  pub harts : IsHarts rows machine.harts
  pub capacity : machine.capacity ≡ None

-- the machine of a command that has one
pub record IsCachedMachine (rows : List Row) (machine : MachineOptions) : Type 0 where
  pub medium : IsOptional (codes "medium") rows machine.medium
  pub harts : IsHarts rows machine.harts
  pub capacity : (lines : ℕ) × (machine.capacity ≡ Some lines) × IsCapacity rows lines

-- `asm` with these files, of different names
pub record IsAssemble (rows : List Row) (command : AssembleCommand) : Type 0 where
  pub source : IsWord (codes "SOURCE") rows command.source
  pub object : IsWord (codes "OBJECT") rows command.object
  pub differ : string_bytes command.source ≢ string_bytes command.object

-- `mkfs` with these files and lines
pub record IsMakeVolume (rows : List Row) (command : MakeVolumeCommand) : Type 0 where
  pub plan : IsWord (codes "PLAN") rows command.plan
  pub lines : IsNumberWord (first_of (codes "LINES") rows) command.lines
  pub medium : IsWord (codes "MEDIUM") rows command.medium

-- `upgrade` with these files, pages and lines
pub record IsUpgrade (rows : List Row) (command : UpgradeCommand) : Type 0 where
  pub medium : IsWord (codes "OLD") rows command.medium
  pub pages : IsNumberWord (first_of (codes "PAGES") rows) command.pages
  pub lines : IsNumberWord (first_of (codes "LINES") rows) command.lines
  pub upgraded : IsWord (codes "NEW") rows command.upgraded

-- `run` with this program and these options
pub record IsRun (rows : List Row) (command : RunCommand) : Type 0 where
  pub program : IsWord (codes "PROGRAM") rows command.program
  pub machine : IsCachedMachine rows command.machine
  pub steps : IsSteps rows command.steps
  pub recorded : IsOptional (codes "record") rows command.record
  pub out : IsOptional (codes "out") rows command.out
  pub whole : command.whole ≡ is_set (first_of (codes "whole") rows)

-- `replay` with these files and options
pub record IsReplay (rows : List Row) (command : ReplayCommand) : Type 0 where
  pub program : IsWord (codes "PROGRAM") rows command.run.program
  pub schedule : IsWord (codes "SCHEDULE") rows command.run.schedule
  pub machine : IsCachedMachine rows command.run.machine
  pub out : IsOptional (codes "out") rows command.out
  pub whole : command.run.whole ≡ is_set (first_of (codes "whole") rows)

-- `debug` with this program and these options
pub record IsDebug (rows : List Row) (command : DebugCommand) : Type 0 where
  pub program : IsWord (codes "PROGRAM") rows command.program
  pub machine : IsCachedMachine rows command.machine

-- a run of this program by this schedule with these options
pub record IsScheduledRun (rows : List Row) (run : ScheduledRun) : Type 0 where
  pub program : IsWord (codes "PROGRAM") rows run.program
  pub schedule : IsWord (codes "SCHEDULE") rows run.schedule
  pub machine : IsWholeMachine rows run.machine
  pub whole : run.whole ≡ is_set (first_of (codes "whole") rows)

-- the events of this trace file, over this medium or none, which have to be whole or not
pub record IsTracedEvents (rows : List Row) (events : TracedEvents) : Type 0 where
  pub file : IsOptional (codes "trace") rows (Some events.file)
  pub medium : IsOptional (codes "medium") rows events.medium
  pub whole : events.whole ≡ is_set (first_of (codes "whole") rows)

-- a run where the line has no `--trace`, and else the events of that file
abbrev pub IsEventSource : List Row → EventSource → Type 0
IsEventSource rows (sources.Run run) = IsOptional (codes "trace") rows None × IsScheduledRun rows run
IsEventSource rows (sources.Trace events) = IsTracedEvents rows events

-- `trace` of these events, as text or as JSON
pub record IsTrace (rows : List Row) (command : TraceCommand) : Type 0 where
  pub source : IsEventSource rows command.source
  pub json : command.json ≡ is_set (first_of (codes "json") rows)

-- `unpersisted` or `waste` of these events, as text or as JSON, with notes or without
pub record IsReport (rows : List Row) (command : ReportCommand) : Type 0 where
  pub source : IsEventSource rows command.source
  pub json : command.json ≡ is_set (first_of (codes "json") rows)
  pub quiet : command.quiet ≡ is_set (first_of (codes "quiet") rows)

-- `images` of this moment of these events, as text or as JSON
pub record IsImages (rows : List Row) (command : ImagesCommand) : Type 0 where
  pub source : IsEventSource rows command.source
  pub moment : IsNumberWord (first_of (codes "MOMENT") rows) command.moment
  pub json : command.json ≡ is_set (first_of (codes "json") rows)

-- `image` of this image of this moment of these events, into this file
pub record IsImage (rows : List Row) (command : ImageCommand) : Type 0 where
  pub source : IsEventSource rows command.source
  pub moment : IsNumberWord (first_of (codes "MOMENT") rows) command.moment
  pub image : IsImageWord (first_of (codes "IMAGE") rows) command.image
  pub out : IsWord (codes "OUT") rows command.out

-- `explain` of this image of this moment of this run, by the needed evictions alone or by all
pub record IsExplain (rows : List Row) (command : ExplainCommand) : Type 0 where
  pub run : IsScheduledRun rows command.run
  pub moment : IsNumberWord (first_of (codes "MOMENT") rows) command.moment
  pub image : IsImageWord (first_of (codes "IMAGE") rows) command.image
  pub least : command.least ≡ is_set (first_of (codes "least") rows)

-- What `check` and `judge` have in common: these events, by so many workers, these moments of them or all, whether judging goes on behind those
-- with too many branches, whether a failure is explained, as text or as JSON, whether it is told how far the check has come, and whether notes are
-- left out.
pub record IsJudgedRun (rows : List Row) (judged : JudgedRun) : Type 0 where
  pub source : IsEventSource rows judged.source
  pub workers : IsWorkers rows judged.workers
  pub moments : IsOptionalMoments (first_of (codes "moments") rows) judged.moments
  pub goes_on : judged.goes_on ≡ is_set (first_of (codes "go-on") rows)
  pub why : judged.why ≡ is_set (first_of (codes "why") rows)
  pub json : judged.json ≡ is_set (first_of (codes "json") rows)
  pub progress : judged.progress ≡ is_set (first_of (codes "progress") rows)
  pub quiet : judged.quiet ≡ is_set (first_of (codes "quiet") rows)

-- `check` of these events by this plan
pub record IsCheck (rows : List Row) (command : CheckCommand) : Type 0 where
  pub plan : IsWord (codes "PLAN") rows command.plan
  pub judged : IsJudgedRun rows command.judged

-- The right answers by `--atomic` and `--overlapping`: those of sequential runs by the one, those of the run itself by the other, where operations
-- may then overlap, and without any. With both none are right.
abbrev pub AreRightBy : Bool → Bool → RightAnswers → Type 0
AreRightBy false false right = right ≡ InTurn
AreRightBy false true right = right ≡ Overlapping
AreRightBy true false right = right ≡ Atomic
AreRightBy true true right = ⊥

abbrev pub IsRight : List Row → RightAnswers → Type 0
IsRight rows right = AreRightBy (is_set (first_of (codes "atomic") rows)) (is_set (first_of (codes "overlapping") rows)) right

-- the program whose sequential runs are asked for is there: those of a trace file have none
abbrev pub IsRightOf : EventSource → RightAnswers → Type 0
IsRightOf (sources.Run run) right = ⊤
IsRightOf (sources.Trace events) right = right ≢ Atomic

-- power cuts in recovery are asked for of a run alone
abbrev pub AreCutsOf : EventSource → Option MostCuts → Type 0
AreCutsOf (sources.Run run) cuts = ⊤
AreCutsOf (sources.Trace events) cuts = cuts ≡ None

-- `judge` of these events by this recovery routine, so many steps of it on an image, the answers of it that are right, at most so many states of the
-- search for sequential runs, so many power cuts in recovery, and whether the answers on full images are told
pub record IsJudge (rows : List Row) (command : JudgeCommand) : Type 0 where
  pub recovery : IsWord (codes "RECOVERY") rows command.recovery
  pub steps : IsRecoverySteps rows command.steps
  pub right : IsRight rows command.right
  pub states : IsStates rows command.states
  pub cuts : IsOptionalCuts (first_of (codes "recovery-cuts") rows) command.cuts
  pub answers : command.answers ≡ is_set (first_of (codes "answers") rows)
  pub judged : IsJudgedRun rows command.judged
  pub of_run : IsRightOf command.judged.source command.right
  pub cuts_of_run : AreCutsOf command.judged.source command.cuts
  pub by_routine : is_set (first_of (codes "ask") rows) ≡ false

-- no recovery routine is named, and no option of one is given
pub record AsksAlone (rows : List Row) : Type 0 where
  pub recovery : first_of (codes "RECOVERY") rows ≡ None
  pub steps : first_of (codes "steps") rows ≡ None
  pub workers : first_of (codes "workers") rows ≡ None
  pub overlapping : is_set (first_of (codes "overlapping") rows) ≡ false
  pub goes_on : is_set (first_of (codes "go-on") rows) ≡ false
  pub progress : is_set (first_of (codes "progress") rows) ≡ false
  pub answers : is_set (first_of (codes "answers") rows) ≡ false

-- `judge --ask` of these events of a trace file, these moments of them or all, whether a failing image is explained, as text or as JSON
pub record IsAsk (rows : List Row) (command : AskCommand) : Type 0 where
  pub asks : is_set (first_of (codes "ask") rows) ≡ true
  pub alone : AsksAlone rows
  pub events : IsEventSource rows (sources.Trace command.events)
  pub moments : IsOptionalMoments (first_of (codes "moments") rows) command.moments
  pub why : command.why ≡ is_set (first_of (codes "why") rows)
  pub json : command.json ≡ is_set (first_of (codes "json") rows)

-- What `check-all` and `judge-all` have in common: this program, by so many workers, at most so many states, whether harts may stop in any way, whether a failure is
-- explained, as text or as JSON, and whether it is reported how far the search has come.
pub record IsJudgedProgram (rows : List Row) (judged : JudgedProgram) : Type 0 where
  pub program : IsWord (codes "PROGRAM") rows judged.program
  pub machine : IsWholeMachine rows judged.machine
  pub workers : IsWorkers rows judged.workers
  pub states : IsStates rows judged.states
  pub any_end : judged.any_end ≡ is_set (first_of (codes "any-end") rows)
  pub why : judged.why ≡ is_set (first_of (codes "why") rows)
  pub json : judged.json ≡ is_set (first_of (codes "json") rows)
  pub progress : judged.progress ≡ is_set (first_of (codes "progress") rows)

-- `check-all` of this program by this plan
pub record IsCheckAll (rows : List Row) (command : CheckAllCommand) : Type 0 where
  pub plan : IsWord (codes "PLAN") rows command.plan
  pub judged : IsJudgedProgram rows command.judged

-- `judge-all` of this program by this recovery routine, and so many steps of it on an image
pub record IsJudgeAll (rows : List Row) (command : JudgeAllCommand) : Type 0 where
  pub recovery : IsWord (codes "RECOVERY") rows command.recovery
  pub steps : IsRecoverySteps rows command.steps
  pub judged : IsJudgedProgram rows command.judged

-- `answer` of this recovery routine on this medium, in so many steps at most
pub record IsAnswer (rows : List Row) (command : AnswerCommand) : Type 0 where
  pub recovery : IsWord (codes "RECOVERY") rows command.recovery
  pub medium : IsOptional (codes "medium") rows command.medium
  pub steps : IsRecoverySteps rows command.steps

-- `picture` of this moment of these events, with this image of it or none, into this file
pub record IsPicture (rows : List Row) (command : PictureCommand) : Type 0 where
  pub source : IsEventSource rows command.source
  pub moment : IsNumberWord (first_of (codes "MOMENT") rows) command.moment
  pub image : IsOptionalImage (first_of (codes "image") rows) command.image
  pub picture : IsWord (codes "FILE") rows command.picture

-- `interleave` of this program from this seed with these options
pub record IsInterleave (rows : List Row) (command : InterleaveCommand) : Type 0 where
  pub program : IsWord (codes "PROGRAM") rows command.program
  pub machine : IsWholeMachine rows command.machine
  pub seed : IsSeed rows command.seed
  pub steps : IsSteps rows command.steps
  pub evictions : IsEvictions rows command.evictions

-- `show` of this medium, and of this line or of none
pub record IsShow (rows : List Row) (command : ShowCommand) : Type 0 where
  pub medium : IsWord (codes "MEDIUM") rows command.medium
  pub line : IsOptionalNumber (first_of (codes "LINE") rows) command.line

-- `listing` of this program
pub record IsListing (rows : List Row) (command : ListingCommand) : Type 0 where
  pub program : IsWord (codes "PROGRAM") rows command.program

-- `program` of this program
pub record IsProgram (rows : List Row) (command : ProgramCommand) : Type 0 where
  pub program : IsWord (codes "PROGRAM") rows command.program

-- `code` with this code, or with none
pub record IsCode (rows : List Row) (command : CodeCommand) : Type 0 where
  pub code : IsCodeWord (first_of (codes "CODE") rows) command.meaning

-- the command of the subcommand of this name, by the values found for its words and options
abbrev pub IsOf : Text → List Row → Command → Type 0
IsOf name rows (Assemble command) = (name ≡ codes "asm") × IsAssemble rows command
IsOf name rows (MakeVolume command) = (name ≡ codes "mkfs") × IsMakeVolume rows command
IsOf name rows (Upgrade command) = (name ≡ codes "upgrade") × IsUpgrade rows command
IsOf name rows (Run command) = (name ≡ codes "run") × IsRun rows command
IsOf name rows (Replay command) = (name ≡ codes "replay") × IsReplay rows command
IsOf name rows (Debug command) = (name ≡ codes "debug") × IsDebug rows command
IsOf name rows (Trace command) = (name ≡ codes "trace") × IsTrace rows command
IsOf name rows (Unpersisted command) = (name ≡ codes "unpersisted") × IsReport rows command
IsOf name rows (Waste command) = (name ≡ codes "waste") × IsReport rows command
IsOf name rows (Images command) = (name ≡ codes "images") × IsImages rows command
IsOf name rows (Image command) = (name ≡ codes "image") × IsImage rows command
IsOf name rows (Explain command) = (name ≡ codes "explain") × IsExplain rows command
IsOf name rows (Check command) = (name ≡ codes "check") × IsCheck rows command
IsOf name rows (Judge command) = (name ≡ codes "judge") × IsJudge rows command
IsOf name rows (Ask command) = (name ≡ codes "judge") × IsAsk rows command
IsOf name rows (CheckAll command) = (name ≡ codes "check-all") × IsCheckAll rows command
IsOf name rows (JudgeAll command) = (name ≡ codes "judge-all") × IsJudgeAll rows command
IsOf name rows (Answer command) = (name ≡ codes "answer") × IsAnswer rows command
IsOf name rows (Picture command) = (name ≡ codes "picture") × IsPicture rows command
IsOf name rows (Interleave command) = (name ≡ codes "interleave") × IsInterleave rows command
IsOf name rows (Show command) = (name ≡ codes "show") × IsShow rows command
IsOf name rows (Listing command) = (name ≡ codes "listing") × IsListing rows command
IsOf name rows (Program command) = (name ≡ codes "program") × IsProgram rows command
IsOf name rows (Code command) = (name ≡ codes "code") × IsCode rows command

-- the name of no subcommand that makes a file from others
pub record MakesNone (name : Text) : Type 0 where
  pub asm : name ≢ codes "asm"
  pub mkfs : name ≢ codes "mkfs"
  pub upgrade : name ≢ codes "upgrade"

-- the name of no subcommand that runs a program for itself
pub record RunsNone (name : Text) : Type 0 where
  pub run : name ≢ codes "run"
  pub replay : name ≢ codes "replay"
  pub debug : name ≢ codes "debug"

-- the name of no subcommand that tells of events
pub record TellsNone (name : Text) : Type 0 where
  pub trace : name ≢ codes "trace"
  pub unpersisted : name ≢ codes "unpersisted"
  pub waste : name ≢ codes "waste"
  pub images : name ≢ codes "images"
  pub image : name ≢ codes "image"
  pub explain : name ≢ codes "explain"

-- the name of no subcommand that judges a run by a schedule, or every one of a program, or says what a recovery routine answers
pub record JudgesNone (name : Text) : Type 0 where
  pub check : name ≢ codes "check"
  pub judge : name ≢ codes "judge"
  pub check_all : name ≢ codes "check-all"
  pub judge_all : name ≢ codes "judge-all"
  pub answer : name ≢ codes "answer"

-- the command that the subcommand of a line asks for
abbrev pub IsAsked : Option (Text × List Row) → Command → Type 0
IsAsked None command = ⊥
IsAsked (Some (name, rows)) command = IsOf name rows command

-- the line has no fault in its grammar, and asks for this command
pub record IsCommand (words : List Text) (command : Command) : Type 0 where
  pub grammatical : fault_of (grammar_of words) words ≡ []
  pub asked : IsAsked (subcommand_of (grammar_of words) words) command

-- a number is within its limits
abbrev pub IsWithin : ℕ → ℕ → ℕ → Type 0
IsWithin low high n = (low ≤ n) × (n ≤ high)

-- the numbers of a machine are within their limits
pub record IsMachineWithin (machine : MachineOptions) : Type 0 where
  pub harts : IsWithin 1 8 machine.harts
  pub capacity : IfSome machine.capacity (IsWithin 1 16384)

-- those of the machine of a run are
abbrev pub IsSourceWithin : EventSource → Type 0
IsSourceWithin (sources.Run run) = IsMachineWithin run.machine
IsSourceWithin (sources.Trace events) = ⊤

-- the numbers of events that are judged are within their limits
pub record IsJudgedWithin (judged : JudgedRun) : Type 0 where
  pub source : IsSourceWithin judged.source
  pub workers : IsWithin 1 8 judged.workers
  pub moments : IfSome judged.moments IsUpward

-- the numbers of a program of which every schedule is judged are within their limits
pub record IsProgramWithin (judged : JudgedProgram) : Type 0 where
  pub machine : IsMachineWithin judged.machine
  pub workers : IsWithin 1 8 judged.workers
  pub states : IsWithin 1 4294967295 judged.states

-- a command's numbers are within their limits
abbrev pub IsWithinLimits : Command → Type 0
IsWithinLimits (Assemble command) = ⊤
IsWithinLimits (MakeVolume command) = command.lines < 2 ^ 32
IsWithinLimits (Upgrade command) = (command.pages < 2 ^ 32) × (command.lines < 2 ^ 32)
IsWithinLimits (Run command) = IsMachineWithin command.machine × IsWithin 1 500000000 command.steps
IsWithinLimits (Replay command) = IsMachineWithin command.run.machine
IsWithinLimits (Debug command) = IsMachineWithin command.machine
IsWithinLimits (Trace command) = IsSourceWithin command.source
IsWithinLimits (Unpersisted command) = IsSourceWithin command.source
IsWithinLimits (Waste command) = IsSourceWithin command.source
IsWithinLimits (Images command) = IsSourceWithin command.source × (command.moment < 2 ^ 32)
IsWithinLimits (Image command) = IsSourceWithin command.source × (command.moment < 2 ^ 32) × IsProper command.image
IsWithinLimits (Explain command) = IsMachineWithin command.run.machine × (command.moment < 2 ^ 32) × IsProper command.image
IsWithinLimits (Check command) = IsJudgedWithin command.judged
IsWithinLimits (Judge command) = IsJudgedWithin command.judged × IsWithin 1 500000000 command.steps × IsWithin 1 4294967295 command.states
    × IsRightOf command.judged.source command.right × IfSome command.cuts AreFewCuts × AreCutsOf command.judged.source command.cuts
IsWithinLimits (Ask command) = IfSome command.moments IsUpward
IsWithinLimits (CheckAll command) = IsProgramWithin command.judged
IsWithinLimits (JudgeAll command) = IsProgramWithin command.judged × IsWithin 1 500000000 command.steps
IsWithinLimits (Answer command) = IsWithin 1 500000000 command.steps
IsWithinLimits (Picture command) = IsSourceWithin command.source × (command.moment < 2 ^ 32) × IfSome command.image IsProper
IsWithinLimits (Interleave command) = IsMachineWithin command.machine × IsWithin 1 500000000 command.steps × IsWithin 0 65536 command.evictions
IsWithinLimits (Show command) = IfSome command.line (λ line. line < 2 ^ 32)
IsWithinLimits (Listing command) = ⊤
IsWithinLimits (Program command) = ⊤
IsWithinLimits (Code command) = ⊤

-- why a subcommand gives no command: it is `help`, or none is asked for by these values
abbrev pub IsNoCommand : Text → List Row → LineFault → Type 0
IsNoCommand name rows (Help text) = name ≡ codes "help"
IsNoCommand name rows (Fault text) = (name ≢ codes "help") × ((command : Command) → ¬ (IsOf name rows command))
IsNoCommand name rows Memory = ⊤

-- the subcommand of a line is `help`
abbrev pub IsHelp : Option (Text × List Row) → Type 0
IsHelp None = ⊥
IsHelp (Some (name, rows)) = name ≡ codes "help"

-- the line has no fault in its grammar, and is `help`
pub record IsHelpLine (words : List Text) : Type 0 where
  pub grammatical : fault_of (grammar_of words) words ≡ []
  pub asked : IsHelp (subcommand_of (grammar_of words) words)

-- help comes where the grammar answers with help or the version, or the line is `help`; and a fault where the line asks for no command,
-- isn't `help`, and doesn't ask for help or the version alone by its grammar
abbrev pub Refuses : List Text → LineFault → Type 0
Refuses words (Help text) = IsAmong kinds.DisplayHelp (fault_of (grammar_of words) words)
    ⊎ (IsAmong kinds.DisplayVersion (fault_of (grammar_of words) words) ⊎ IsHelpLine words)
Refuses words (Fault text) = (fault_of (grammar_of words) words ≢ kinds.DisplayHelp ∷ [])
    × (fault_of (grammar_of words) words ≢ kinds.DisplayVersion ∷ []) × (¬ IsHelpLine words)
    × ((command : Command) → ¬ IsCommand words command)
Refuses words Memory = ⊤

-- what holds of a fault that isn't for memory
abbrev pub OnFault : Type 0 → LineFault → Type 0
OnFault P (Help text) = ⊥
OnFault P (Fault text) = P
OnFault P Memory = ⊤

-- a fault of the line, and neither help nor for memory
abbrev pub IsFault : LineFault → Type 0
IsFault (Help text) = ⊥
IsFault (Fault text) = ⊤
IsFault Memory = ⊥

-- the fault for an error of clap of this kind
abbrev pub IsKindOf : ErrorKind → LineFault → Type 0
IsKindOf kind (Help text) = (kind ≡ kinds.DisplayHelp) ⊎ (kind ≡ kinds.DisplayVersion)
IsKindOf kind (Fault text) = (kind ≢ kinds.DisplayHelp) × (kind ≢ kinds.DisplayVersion) × (kind ≢ kinds.OutOfMemory)
IsKindOf kind Memory = kind ≡ kinds.OutOfMemory
