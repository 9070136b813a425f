-- A trace file as far as its lines have been read.
use Rattle.std.specs.Prelude.{◌≡◌, ◌<◌, ◌≤◌, ◌+◌, ℕ, List, Option, length}
use Rattle.store_trace.specs.declared.event.Event.{Event}
use Rattle.trace_file.specs.Entries.{Entry, last_line}
use Rattle.trace_file.specs.Files.{AreAllowed, IsFaultAt, IsTraceFile, lines_of, with_named}
use Rattle.trace_file.specs.Kept.{KeepsAll}
use Rattle.trace_file.specs.Parts.{HasEvent}
use Rattle.trace_file.specs.declared.fault.TraceFileCode.{TraceFileCode}
use Rattle.trace_file.specs.declared.kept.Kept.{Kept}
use Rattle.trace_file.specs.declared.lines.Line.{Line}
use Rattle.trace_file.specs.declared.lines.Line.TheVariants as kind

-- an event more passes no limit of all events together
pub record IsAdmissible (count : ℕ) (lines : List ℕ) (event : Event) : Type 0 where
  pub few : count < 65536
  pub few_lines : length (with_named lines event) ≤ 16384

pub record IsAdmitted (count : ℕ) (old : List ℕ) (event : Event) (new : List ℕ) : Type 0 where
  pub admissible : IsAdmissible count old event
  pub lines : new ≡ with_named old event

-- the text begins with this line, and it is admitted
abbrev pub HasAdmitted : ℕ → List ℕ → List ℕ → List ℕ → Line → Type 0
HasAdmitted count text old new (kind.Event event place rest) = HasEvent count text event place.now rest.now × IsAdmitted count old event new
HasAdmitted count text old new (kind.Last rest) = (text ≡ last_line count rest.now) × (new ≡ old)

-- behind any allowed entries, so many and of these lines, the code says what is wrong with the text
abbrev pub IsFaultBehind : ℕ → List ℕ → List ℕ → TraceFileCode → Type 0
IsFaultBehind count text lines broken = (before : List Entry) → AreAllowed before → count ≡ length before → lines ≡ lines_of before
    → IsFaultAt broken before text (count + 1)

-- the text is the trace file of entries, so many and of these lines, that are all kept unless memory was refused
pub record IsGathered (text lines : List ℕ) (count : ℕ) (kept : Option Kept) : Type 0 where
  pub entries : List Entry
  pub file : IsTraceFile text entries
  pub number : count ≡ length entries
  pub different : lines ≡ lines_of entries
  pub keeps : KeepsAll entries kept
