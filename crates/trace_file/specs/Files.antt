-- Which texts are trace files, and what is wrong with those that are none.
-- Source: this project's own format. The limits are those of a trace, of its harts and of a medium.
use Rattle.std.specs.Prelude.{◌≡◌, ◌≢◌, ◌≤◌, ◌<◌, ◌+◌, ◌*◌, ◌^◌, ◌%◌, ◌⊎◌, ℕ, List, [], ◌∷◌, ◌++◌, All, length, ⊤}
use Rattle.std.specs.List.{fold}
use Rattle.store_trace.specs.Cut.{with_line}
use Rattle.store_trace.specs.TraceView.{IsWidth}
use Rattle.store_trace.specs.declared.event.Event.{Event}
use Rattle.store_trace.specs.declared.event.Event.TheVariants.{Store, Clean, Fence, Begin, End}
use Rattle.trace_file.specs.Entries.{ArePlaceWords, Entry, entry_line, last_line, line_end, lines_from, trace_text}
use Rattle.trace_file.specs.declared.fault.TraceFileCode.{TraceFileCode}
use Rattle.trace_file.specs.declared.fault.TraceFileCode.TheVariants as code

-- a store is aligned and lies in its line, and its value has as many bytes as it writes
abbrev pub FitsItsLine : Event → Type 0
FitsItsLine (Store hart line offset width value) = IsWidth width × (offset % width ≡ 0) × (offset < 64) × (value < 2 ^ (8 * width))
FitsItsLine (Clean hart line) = ⊤
FitsItsLine (Fence hart) = ⊤
FitsItsLine (Begin hart op) = ⊤
FitsItsLine (End hart op) = ⊤

-- eight harts, lines numbered by 32 bits, operations by 64
abbrev pub IsWithinLimits : Event → Type 0
IsWithinLimits (Store hart line offset width value) = (hart < 8) × (line < 2 ^ 32)
IsWithinLimits (Clean hart line) = (hart < 8) × (line < 2 ^ 32)
IsWithinLimits (Fence hart) = hart < 8
IsWithinLimits (Begin hart op) = (hart < 8) × (op < 2 ^ 64)
IsWithinLimits (End hart op) = (hart < 8) × (op < 2 ^ 64)

-- the lines, upwards, with the line that an event names among them
abbrev pub with_named : List ℕ → Event → List ℕ
with_named lines (Store hart line offset width value) = with_line line lines
with_named lines (Clean hart line) = with_line line lines
with_named lines (Fence hart) = lines
with_named lines (Begin hart op) = lines
with_named lines (End hart op) = lines

-- the different lines that entries name, upwards
abbrev pub lines_of : List Entry → List ℕ
lines_of entries = fold (λ lines entry. with_named lines entry.event) [] entries

pub record IsAllowed (entry : Entry) : Type 0 where
  pub places : ArePlaceWords entry.places
  pub fits : FitsItsLine entry.event
  pub within : IsWithinLimits entry.event

-- each entry is allowed, and there are at most 65,536, of at most 16,384 different lines
pub record AreAllowed (entries : List Entry) : Type 0 where
  pub each : All IsAllowed entries
  pub few : length entries ≤ 65536
  pub few_lines : length (lines_of entries) ≤ 16384

-- the text is the trace file of these entries
pub record IsTraceFile (text : List ℕ) (entries : List Entry) : Type 0 where
  pub allowed : AreAllowed entries
  pub whole : text ≡ trace_text entries

-- the lines of allowed entries begin the text, and then comes the rest
pub record Begins (text : List ℕ) (before : List Entry) (rest : List ℕ) : Type 0 where
  pub allowed : AreAllowed before
  pub whole : text ≡ lines_from 1 before rest

-- a text that begins with the line of an entry of this number
pub record HasEntry (text : List ℕ) (number : ℕ) (entry : Entry) : Type 0 where
  pub rest : List ℕ
  pub places : ArePlaceWords entry.places
  pub line : text ≡ entry_line number entry rest

-- and one that begins with the last line of so many entries
pub record HasLast (text : List ℕ) (total : ℕ) : Type 0 where
  pub rest : List ℕ
  pub line : text ≡ last_line total rest

-- and one that has a whole line
pub record HasLine (text : List ℕ) : Type 0 where
  pub line : List ℕ
  pub rest : List ℕ
  pub whole : text ≡ line ++ line_end rest

-- V1: there is a line, and it is neither an entry's nor the last, whatever its numbers
pub record HasNoSuchLine (rest : List ℕ) : Type 0 where
  pub ends : HasLine rest
  pub no_entry : (number : ℕ) (entry : Entry) → ¬ HasEntry rest number entry
  pub no_last : (total : ℕ) → ¬ HasLast rest total

-- V2: an entry's number isn't the next one, or the last line's isn't that of the entries
abbrev pub IsMisnumbered : ℕ → List ℕ → Type 0
IsMisnumbered count rest = ((number : ℕ) × (entry : Entry) × HasEntry rest number entry × (number ≢ count + 1))
    ⊎ ((total : ℕ) × HasLast rest total × (total ≢ count))

-- V3: the next entry's store isn't one
pub record HasBadStore (count : ℕ) (rest : List ℕ) : Type 0 where
  pub entry : Entry
  pub line : HasEntry rest (count + 1) entry
  pub bad : ¬ FitsItsLine entry.event

-- V4: with the next entry a limit is passed
pub record PassesLimit (before : List Entry) (rest : List ℕ) : Type 0 where
  pub entry : Entry
  pub line : HasEntry rest (length before + 1) entry
  pub fits : FitsItsLine entry.event
  pub passed : ¬ AreAllowed (before ++ entry ∷ [])

-- V5: the text ends before the last line does
pub record EndsEarly (before : List Entry) (rest : List ℕ) (number : ℕ) : Type 0 where
  pub place : number ≡ length before + 1
  pub unended : ¬ HasLine rest

-- or goes on behind it
pub record GoesOn (before : List Entry) (rest : List ℕ) (number : ℕ) : Type 0 where
  pub place : number ≡ length before + 2
  pub more : List ℕ
  pub whole : rest ≡ last_line (length before) more
  pub some : more ≢ []

-- what is wrong with the rest of a text behind the lines of allowed entries, and at which line of the text
abbrev pub IsFaultAt : TraceFileCode → List Entry → List ℕ → ℕ → Type 0
IsFaultAt code.Form before rest number = (number ≡ length before + 1) × HasNoSuchLine rest
IsFaultAt code.Number before rest number = (number ≡ length before + 1) × IsMisnumbered (length before) rest
IsFaultAt code.Store before rest number = (number ≡ length before + 1) × HasBadStore (length before) rest
IsFaultAt code.Limit before rest number = (number ≡ length before + 1) × PassesLimit before rest
IsFaultAt code.End before rest number = EndsEarly before rest number ⊎ GoesOn before rest number
-- out of memory is no fault of the text
IsFaultAt code.Memory before rest number = ⊥

-- the first line at fault, and the lowest code of what is wrong with it
pub record IsFirstFault (text : List ℕ) (number : ℕ) (broken : TraceFileCode) : Type 0 where
  pub before : List Entry
  pub rest : List ℕ
  pub begins : Begins text before rest
  pub fault : IsFaultAt broken before rest number
