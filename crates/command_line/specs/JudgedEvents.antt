-- The events that `check` and `judge` give the verdict on, and the medium that they start from.
use Rattle.std.specs.Prelude.{◌≡◌, ◌⊎◌, ℕ, List, Result, MatchResult, length, option_map, string_bytes}
use Rattle.arguments.specs.declared.asked.EventSource.{EventSource}
use Rattle.arguments.specs.declared.asked.EventSource.TheVariants as sources
use Rattle.arguments.specs.declared.asked.ScheduledRun.{ScheduledRun}
use Rattle.arguments.specs.declared.asked.TracedEvents.{TracedEvents}
use Rattle.machine.specs.declared.shared_memory.fault.StepFault.TheVariants.{NoSuchLine}
use Rattle.trace_file.specs.Ranks.{AreWithin, IsByNames, LacksName}
use Rattle.trace_file.specs.declared.file.RankedTrace.{RankedTrace}
use Rattle.command_line.specs.Demanding.{MeetsWhole}
use Rattle.command_line.specs.MakingRuns.{OpensRun}
use Rattle.command_line.specs.Reading.{ReadsMedium}
use Rattle.command_line.specs.Steps.{First, Reads, ReadsFile, Step, Still}
use Rattle.command_line.specs.Traces.{IsOpened, MeetsPlanned, SaysTrace}
use Rattle.command_line.specs.declared.events.OpenEvents.{OpenEvents}
use Rattle.command_line.specs.declared.events.OpenEvents.TheVariants.{Run, Trace}
use Rattle.command_line.specs.declared.failure.Failure.{Failure}
use Rattle.command_line.specs.declared.failure.Failure.TheVariants.{Refused, Memory}
use Rattle.command_line.specs.declared.failure.Refusal.TheVariants as refusals

-- the events of a trace file by the names of their lines, over a medium that has these lines
abbrev pub IsOverMedium : RankedTrace → List (List ℕ) → OpenEvents → Type 0
IsOverMedium ranked medium (Run made) = ⊥
IsOverMedium ranked medium (Trace trace) = IsByNames ranked (length medium) trace.ranked × (trace.medium ≡ medium)

-- G2: the medium lacks a line that the events name; else memory may be refused
abbrev pub IsOutside : RankedTrace → List (List ℕ) → Failure → Type 0
IsOutside ranked medium failure = ((failure ≡ Refused (refusals.Step NoSuchLine)) × LacksName ranked.names.items (length medium))
    ⊎ ((failure ≡ Memory) × AreWithin ranked.names.items (length medium))

pub record OpensOver (ranked : RankedTrace) (medium : List (List ℕ)) (outcome : Result OpenEvents Failure) : Type 0 where
  pub opens : MatchResult outcome (IsOverMedium ranked medium) (IsOutside ranked medium)

-- A trace file over the medium of a file, or over 512 lines of zeros. With `--whole` it is judged only where each operation has ended, and each
-- planned one has begun.
abbrev pub OpensJudgedTrace : {F : Type 0} → Reads F → TracedEvents → List ℕ → Step F OpenEvents
OpensJudgedTrace reads events planned =
    First (ReadsFile reads (string_bytes events.file)) (λ text.
    First (Still (SaysTrace text)) (λ ranked.
    First (Still (MeetsPlanned events.whole ranked planned)) (λ _.
    First (ReadsMedium reads (option_map string_bytes events.medium)) (λ medium.
    Still (OpensOver ranked medium)))))

abbrev pub OpensJudgedRun : {F : Type 0} → Reads F → ScheduledRun → List ℕ → Step F OpenEvents
OpensJudgedRun reads run planned =
    First (OpensRun reads run) (λ made.
    First (Still (MeetsWhole run.whole made planned)) (λ _.
    Still (IsOpened made)))

-- the events of a run, or those of a file, by a plan of these operations
abbrev pub OpensJudged : {F : Type 0} → Reads F → EventSource → List ℕ → Step F OpenEvents
OpensJudged reads (sources.Run run) planned = OpensJudgedRun reads run planned
OpensJudged reads (sources.Trace events) planned = OpensJudgedTrace reads events planned
