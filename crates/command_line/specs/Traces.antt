-- What a trace file says that a command reads, and the medium that its events start from.
use Rattle.std.specs.Prelude.{◌≡◌, ◌≤◌, ℕ, Bool, List, [], None, Result, Ok, All, MatchResult, length, slice_index, string_bytes}
use Rattle.arguments.specs.declared.asked.EventSource.{EventSource}
use Rattle.arguments.specs.declared.asked.EventSource.TheVariants as sources
use Rattle.arguments.specs.declared.asked.ScheduledRun.{ScheduledRun}
use Rattle.arguments.specs.declared.asked.TracedEvents.{TracedEvents}
use Rattle.crash_image.specs.View.{HasLines}
use Rattle.crash_test.specs.Origins.{origin_of}
use Rattle.crash_test.specs.Programs.{IsProgramOf}
use Rattle.store_trace.specs.TraceView.{NamesLine}
use Rattle.store_trace.specs.declared.event.Event.{Event}
use Rattle.report.specs.Places.{nowhere, origin_in}
use Rattle.report.specs.Told.{AreOfFile, events_in}
use Rattle.report.specs.declared.told.ToldEvents.{ToldEvents}
use Rattle.trace_file.specs.Entries.{Entry}
use Rattle.trace_file.specs.Files.{IsFirstFault, IsTraceFile}
use Rattle.trace_file.specs.Ranks.{HasEntries, copies_of}
use Rattle.trace_file.specs.declared.fault.TraceFileCode.{TraceFileCode}
use Rattle.trace_file.specs.declared.fault.TraceFileCode.TheVariants as broken
use Rattle.trace_file.specs.declared.fault.TraceFileFault.{TraceFileFault}
use Rattle.trace_file.specs.declared.file.RankedTrace.{RankedTrace}
use Rattle.command_line.specs.Demanding.{MeetsIf, MeetsWhole}
use Rattle.command_line.specs.Failures.{failure_of_trace}
use Rattle.command_line.specs.MakingRuns.{OpensRun}
use Rattle.command_line.specs.Steps.{First, Reads, ReadsFile, Step, Still, Tells}
use Rattle.command_line.specs.declared.events.OpenEvents.{OpenEvents}
use Rattle.command_line.specs.declared.events.OpenEvents.TheVariants.{Run, Trace}
use Rattle.command_line.specs.declared.failure.Failure.{Failure}
use Rattle.command_line.specs.declared.failure.Failure.TheVariants.{Memory}
use Rattle.command_line.specs.declared.made_run.MadeRun.{MadeRun}

-- the text is a trace file with these events, which name lines by ranks
pub record IsReadFrom (text : List ℕ) (ranked : RankedTrace) : Type 0 where
  pub entries : List Entry
  pub file : IsTraceFile text entries
  pub has : HasEntries (record { events = ranked.trace.events; places = copies_of ranked.places.items; names = ranked.names.items }) entries
  pub few : length ranked.names.items ≤ 16384

-- the first fault of a text that is none; memory is wanted for a trace file alone
abbrev pub IsTraceFaultAt : List ℕ → ℕ → TraceFileCode → Type 0
IsTraceFaultAt text line broken.Memory = (entries : List Entry) × IsTraceFile text entries
IsTraceFaultAt text line code = IsFirstFault text line code

abbrev pub IsTraceFault : List ℕ → TraceFileFault → Type 0
IsTraceFault text fault = IsTraceFaultAt text fault.line fault.code

pub record SaysTrace (text : List ℕ) (outcome : Result RankedTrace Failure) : Type 0 where
  pub says : MatchResult outcome (IsReadFrom text) (Tells (IsTraceFault text) failure_of_trace)

-- `--whole`: each operation of the file has ended, and each of these planned ones has begun; its events have no harts
pub record MeetsPlanned (whole : Bool) (ranked : RankedTrace) (planned : List ℕ) (outcome : Result (Unit {0}) Failure) : Type 0 where
  pub meets : MeetsIf whole (λ pc. nowhere) [] ranked.trace.events planned outcome

-- without a plan
abbrev pub MeetsEnded : Bool → RankedTrace → Result (Unit {0}) Failure → Type 0
MeetsEnded whole ranked outcome = MeetsPlanned whole ranked [] outcome

-- the events of which a command tells, and the medium that they start from; those of a file name its lines by ranks
abbrev pub events_of : OpenEvents → List Event
events_of (Run made) = made.run.events
events_of (Trace trace) = trace.ranked.trace.events

abbrev pub medium_of : OpenEvents → List (List ℕ)
medium_of (Run made) = made.run.setup.medium
medium_of (Trace trace) = trace.medium

-- the trace over a medium that has its lines by their ranks
abbrev pub IsOpenTrace : RankedTrace → OpenEvents → Type 0
IsOpenTrace ranked (Run made) = ⊥
IsOpenTrace ranked (Trace trace) = (trace.ranked ≡ ranked) × HasLines trace.medium ranked.trace.events

-- memory for that medium may be refused
pub record OpensTrace (ranked : RankedTrace) (outcome : Result OpenEvents Failure) : Type 0 where
  pub opens : MatchResult outcome (IsOpenTrace ranked) (λ failure. failure ≡ Memory)

pub record IsOpened (made : MadeRun) (outcome : Result OpenEvents Failure) : Type 0 where
  pub opens : outcome ≡ Ok (Run made)

abbrev pub OpensTraceFile : {F : Type 0} → Reads F → TracedEvents → Step F OpenEvents
OpensTraceFile reads events =
    First (ReadsFile reads (string_bytes events.file)) (λ text.
    First (Still (SaysTrace text)) (λ ranked.
    First (Still (MeetsEnded events.whole ranked)) (λ _.
    Still (OpensTrace ranked))))

abbrev pub OpensScheduled : {F : Type 0} → Reads F → ScheduledRun → Step F OpenEvents
OpensScheduled reads run =
    First (OpensRun reads run) (λ made.
    First (Still (MeetsWhole run.whole made [])) (λ _.
    Still (IsOpened made)))

-- the events of a run, or those of a file, which are whole where that is asked
abbrev pub OpensEvents : {F : Type 0} → Reads F → EventSource → Step F OpenEvents
OpensEvents reads (sources.Run run) = OpensScheduled reads run
OpensEvents reads (sources.Trace events) = OpensTraceFile reads events

-- the medium has every line that the events name
abbrev pub IsOpen : OpenEvents → Type 0
IsOpen opened = HasLines (medium_of opened) (events_of opened)

-- the line that events name so: those of a file name it by its rank
abbrev pub name_in : OpenEvents → ℕ → ℕ
name_in (Run made) line = line
name_in (Trace trace) rank = slice_index trace.ranked.names.items rank

-- the lines that the events name have names, of which there are few enough, and each event has its place words
pub record HasNamesAndPlaces (ranked : RankedTrace) : Type 0 where
  pub lines : All (NamesLine (length ranked.names.items)) ranked.trace.events
  pub few : length ranked.names.items ≤ 16384
  pub size : length ranked.places.items ≡ length ranked.trace.events

-- what is known of events of which it can be told where each was made
abbrev pub HasPlaces : OpenEvents → Type 0
HasPlaces (Run made) = IsProgramOf made.file.items made.run.setup.program
HasPlaces (Trace trace) = HasNamesAndPlaces trace.ranked

-- the events of a run as they are told, by what is known of each pc by the program's file
pub record AreOfRun (made : MadeRun) (told : ToldEvents) : Type 0 where
  pub traced : events_in told ≡ made.run.traced
  pub origins : origin_in told.places ≡ origin_of made.file.items
  pub lines : told.lines ≡ None

-- events as they are told, by the names of their lines
abbrev pub AreTold : OpenEvents → ToldEvents → Type 0
AreTold (Run made) told = AreOfRun made told
AreTold (Trace trace) told = AreOfFile trace.ranked told
