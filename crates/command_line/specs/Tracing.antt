-- What `trace` comes to.
use Rattle.std.specs.Prelude.{ℕ, Bool, true, false, List, [], string_bytes}
use Rattle.arguments.specs.declared.asked.EventSource.{EventSource}
use Rattle.arguments.specs.declared.asked.EventSource.TheVariants.{Run, Trace}
use Rattle.arguments.specs.declared.asked.ScheduledRun.{ScheduledRun}
use Rattle.arguments.specs.declared.asked.TraceCommand.{TraceCommand}
use Rattle.arguments.specs.declared.asked.TracedEvents.{TracedEvents}
use Rattle.crash_test.specs.Origins.{origin_of}
use Rattle.report.specs.Events.{trace_text}
use Rattle.report.specs.Json.{trace_json}
use Rattle.report.specs.Places.{KnownOrigin}
use Rattle.machine.specs.declared.run_trace.traced_event.TracedEvent.{TracedEvent}
use Rattle.command_line.specs.Demanding.{MeetsWhole}
use Rattle.command_line.specs.MakingRuns.{OpensRun}
use Rattle.command_line.specs.Steps.{First, Prints, Reads, ReadsFile, Step, Still}
use Rattle.command_line.specs.Traces.{MeetsEnded, SaysTrace}
use Rattle.command_line.specs.declared.answer.Answer.{Answer}

-- the events as text or as JSON, by the line of the source at each pc
abbrev pub told_events : Bool → (ℕ → KnownOrigin) → List TracedEvent → List ℕ
told_events true origins traced = trace_json origins traced
told_events false origins traced = trace_text origins traced

-- the events of a run are printed
abbrev pub TracesRun : {F : Type 0} → Reads F → ScheduledRun → Bool → Step F Answer
TracesRun reads run json =
    First (OpensRun reads run) (λ made.
    First (Still (MeetsWhole run.whole made [])) (λ _.
    Still (Prints (told_events json (origin_of made.file.items) made.run.traced) 0)))

-- a trace file is printed as it is
abbrev pub TracesTrace : {F : Type 0} → Reads F → TracedEvents → Step F Answer
TracesTrace reads events =
    First (ReadsFile reads (string_bytes events.file)) (λ text.
    First (Still (SaysTrace text)) (λ ranked.
    First (Still (MeetsEnded events.whole ranked)) (λ _.
    Still (Prints text 0))))

abbrev pub TracesEvents : {F : Type 0} → Reads F → EventSource → Bool → Step F Answer
TracesEvents reads (Run run) json = TracesRun reads run json
TracesEvents reads (Trace events) json = TracesTrace reads events

abbrev pub TracesFile : {F : Type 0} → Reads F → TraceCommand → Step F Answer
TracesFile reads command = TracesEvents reads command.source command.json
