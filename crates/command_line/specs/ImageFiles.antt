-- What `image` comes to.
use Rattle.std.specs.Prelude.{◌≡◌, ◌≢◌, ◌⊎◌, ◌+◌, ◌*◌, ◌%◌, ◌<◌, ◌≤◌, ◌==◌, ℕ, List, [], Option, Some, None, Result, MatchResult, All, drop, length, map, option_map, position, replicate, slice_index, string_bytes, take, unwrap_or, ⊤}
use Rattle.std.specs.List.{concat, fold}
use Rattle.arguments.specs.declared.asked.EventSource.{EventSource}
use Rattle.arguments.specs.declared.asked.EventSource.TheVariants as sources
use Rattle.arguments.specs.declared.asked.ImageCommand.{ImageCommand}
use Rattle.arguments.specs.declared.asked.ScheduledRun.{ScheduledRun}
use Rattle.arguments.specs.declared.asked.TracedEvents.{TracedEvents}
use Rattle.crash_test.specs.Images.{AreImageLines}
use Rattle.crash_test.specs.Told.{LacksImage}
use Rattle.crash_test.specs.declared.images.ImageLine.{ImageLine}
use Rattle.line_memory.specs.Lines.{line_at}
use Rattle.machine.specs.declared.shared_memory.fault.StepFault.TheVariants.{NoSuchLine}
use Rattle.store_trace.specs.TraceView.{NamesLine}
use Rattle.text.specs.declared.image_name.name.ImageName.{ImageName}
use Rattle.text.specs.declared.image_name.name.ImageName.TheVariants.{Number, Cut}
use Rattle.trace_file.specs.declared.file.RankedTrace.{RankedTrace}
use Rattle.word_bits.specs.Bytes.{replaced}
use Rattle.command_line.specs.Demanding.{MeetsWhole}
use Rattle.command_line.specs.Failures.{failure_of_image}
use Rattle.command_line.specs.MakingRuns.{OpensRun}
use Rattle.command_line.specs.Steps.{First, Prints, Reads, ReadsFile, Step, Still, Tells, Writes, WritesFile}
use Rattle.command_line.specs.Traces.{MeetsEnded, SaysTrace, events_of, medium_of, name_in}
use Rattle.command_line.specs.declared.answer.Answer.{Answer}
use Rattle.command_line.specs.declared.events.OpenEvents.{OpenEvents}
use Rattle.command_line.specs.declared.events.OpenEvents.TheVariants.{Run, Trace}
use Rattle.command_line.specs.declared.failure.Failure.{Failure}
use Rattle.command_line.specs.declared.failure.Failure.TheVariants.{Refused, Memory}
use Rattle.command_line.specs.declared.failure.Refusal.TheVariants as refusals
use Rattle.command_line.specs.declared.image.OpenStart.{OpenStart}
use Rattle.command_line.specs.declared.made_run.MadeRun.{MadeRun}

-- the bytes of line l among those of lines one after another
abbrev pub file_line : List ℕ → ℕ → List ℕ
file_line bytes line = take 64 (drop (64 * line) bytes)

-- the lines of these names stand at their ranks
abbrev pub HasRankedLines : List ℕ → List ℕ → List (List ℕ) → Type 0
HasRankedLines names bytes medium = (rank : ℕ) → rank < length names → line_at medium rank ≡ file_line bytes (slice_index names rank)

-- each of these lines is among so many bytes, or one isn't
abbrev pub AreThere : List ℕ → ℕ → Type 0
AreThere names size = (rank : ℕ) → rank < length names → 64 * slice_index names rank + 64 ≤ size

abbrev pub LacksLine : List ℕ → ℕ → Type 0
LacksLine names size = (rank : ℕ) × (rank < length names) × (size < 64 * slice_index names rank + 64)

abbrev pub IsUnranked : List ℕ → ℕ → Failure → Type 0
IsUnranked names size failure = ((failure ≡ Refused (refusals.Step NoSuchLine)) × LacksLine names size) ⊎ (failure ≡ Memory)

-- it is among so many bytes
abbrev pub IsPlaced : OpenEvents → ℕ → ℕ → Type 0
IsPlaced (Run made) size line = 64 * line + 64 ≤ size
IsPlaced (Trace trace) size rank = (rank < length trace.ranked.names.items) × (64 * slice_index trace.ranked.names.items rank + 64 ≤ size)

-- there are no more names than a trace file may have
abbrev pub HasFewNames : OpenEvents → Type 0
HasFewNames (Run made) = ⊤
HasFewNames (Trace trace) = length trace.ranked.names.items ≤ 16384

-- each line that the events name is among the bytes
pub record HasRoom (start : OpenStart) : Type 0 where
  pub few : HasFewNames start.events
  pub count : ℕ
  pub named : All (NamesLine count) (events_of start.events)
  pub placed : (line : ℕ) → line < count → IsPlaced start.events (length start.bytes.items) line

-- the events of a run, over the bytes of its medium; memory for these may be refused
pub record StartsOver (made : MadeRun) (outcome : Result OpenStart Failure) : Type 0 where
  pub starts : MatchResult outcome (λ start. (start.events ≡ Run made) × (start.bytes.items ≡ concat made.run.setup.medium)) (λ failure. failure ≡ Memory)

-- the events of a trace file over a medium that has the lines of these bytes by their ranks
abbrev pub IsOverBytes : RankedTrace → List ℕ → OpenEvents → Type 0
IsOverBytes ranked bytes (Run made) = ⊥
IsOverBytes ranked bytes (Trace trace) = (trace.ranked ≡ ranked) × HasRankedLines ranked.names.items bytes trace.medium

-- the bytes are whole lines, and have each line that the events name; the events stand over these
abbrev pub IsStartOf : RankedTrace → List ℕ → OpenStart → Type 0
IsStartOf ranked bytes start =
    (length bytes % 64 ≡ 0) × AreThere ranked.names.items (length bytes) × IsOverBytes ranked bytes start.events × (start.bytes.items ≡ bytes)

-- M3: the bytes aren't whole lines; else G2: they lack a line that the events name
abbrev pub IsNoStart : RankedTrace → List ℕ → Failure → Type 0
IsNoStart ranked bytes failure =
    ((failure ≡ Refused refusals.Medium) × (length bytes % 64 ≢ 0)) ⊎ IsUnranked ranked.names.items (length bytes) failure

pub record StartsBytes (ranked : RankedTrace) (bytes : List ℕ) (outcome : Result OpenStart Failure) : Type 0 where
  pub starts : MatchResult outcome (IsStartOf ranked bytes) (IsNoStart ranked bytes)

-- 512 lines of zeros, where no file is named
pub record ZeroBytes (outcome : Result (List ℕ) Failure) : Type 0 where
  pub zeros : MatchResult outcome (λ bytes. bytes ≡ replicate 32768 0) (λ failure. failure ≡ Memory)

abbrev pub ReadsBytes : {F : Type 0} → Reads F → Option (List ℕ) → Step F (List ℕ)
ReadsBytes reads None = Still ZeroBytes
ReadsBytes reads (Some name) = ReadsFile reads name

abbrev pub StartsRun : {F : Type 0} → Reads F → ScheduledRun → Step F OpenStart
StartsRun reads run =
    First (OpensRun reads run) (λ made.
    First (Still (MeetsWhole run.whole made [])) (λ _.
    Still (StartsOver made)))

abbrev pub StartsTrace : {F : Type 0} → Reads F → TracedEvents → Step F OpenStart
StartsTrace reads events =
    First (ReadsFile reads (string_bytes events.file)) (λ text.
    First (Still (SaysTrace text)) (λ ranked.
    First (Still (MeetsEnded events.whole ranked)) (λ _.
    First (ReadsBytes reads (option_map string_bytes events.medium)) (λ bytes.
    Still (StartsBytes ranked bytes)))))

abbrev pub StartsEvents : {F : Type 0} → Reads F → EventSource → Step F OpenStart
StartsEvents reads (sources.Run run) = StartsRun reads run
StartsEvents reads (sources.Trace events) = StartsTrace reads events

-- the bytes with each of these lines in its place
abbrev pub with_lines : (ℕ → ℕ) → List ℕ → List ImageLine → List ℕ
with_lines name bytes lines = fold (λ bytes (line : ImageLine). replaced bytes (64 * name line.line) line.bytes) bytes lines

-- the bytes of the start with each stored line of an image of this moment at its number of the cut, by the names of the lines
pub record IsImageOf (start : OpenStart) (moment : ℕ) (image : ImageName) (bytes : List ℕ) : Type 0 where
  pub lines : List ImageLine
  pub of_image : AreImageLines (medium_of start.events) (events_of start.events) moment image lines
  pub put : bytes ≡ with_lines (name_in start.events) start.bytes.items lines

-- the rank of a line, and the number of all where it has none
abbrev pub rank_in : List ℕ → ℕ → ℕ
rank_in names line = unwrap_or (position (λ name. name == line) names) (length names)

abbrev pub ranked_entry : List ℕ → ℕ × ℕ → ℕ × ℕ
ranked_entry names entry = (rank_in names entry.0, entry.1)

-- the name of an image by ranks of lines
abbrev pub ranked_name : List ℕ → ImageName → ImageName
ranked_name names (Number n) = Number n
ranked_name names (Cut lines) = Cut (map (ranked_entry names) lines)

-- the name of an image as events name its lines
abbrev pub ranked_image : OpenEvents → ImageName → ImageName
ranked_image (Run made) image = image
ranked_image (Trace trace) image = ranked_name trace.ranked.names.items image

-- the lines of an image, or why there is no such image
pub record GivesLines (opened : OpenEvents) (moment : ℕ) (image : ImageName) (outcome : Result (List ImageLine) Failure) : Type 0 where
  pub gives : MatchResult outcome (AreImageLines (medium_of opened) (events_of opened) moment image)
      (Tells (LacksImage (events_of opened) moment image) failure_of_image)

-- the bytes of the image, or why there is none
pub record GivesImage (start : OpenStart) (moment : ℕ) (image : ImageName) (outcome : Result (List ℕ) Failure) : Type 0 where
  pub gives : MatchResult outcome (IsImageOf start moment image) (Tells (LacksImage (events_of start.events) moment image) failure_of_image)

abbrev pub ImageFile : {F : Type 0} → Reads F → Writes F → ImageCommand → Step F Answer
ImageFile reads writes command =
    First (StartsEvents reads command.source) (λ start.
    First (Still (GivesImage start command.moment (ranked_image start.events command.image))) (λ bytes.
    First (WritesFile writes (string_bytes command.out) bytes) (λ _.
    Still (Prints [] 0))))
