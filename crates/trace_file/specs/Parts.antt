-- What the parts of a line have been read as.
use Rattle.std.specs.Prelude.{◌≡◌, ◌<◌, ◌≤◌, ◌+◌, ◌*◌, ◌%◌, ◌^◌, ℕ, Bool, true, List, ◌∷◌, ◌++◌, Result, codes, length}
use Rattle.std.specs.List.{list_all}
use Rattle.std.specs.Result.{MatchResult}
use Rattle.store_trace.specs.TraceView.{IsWidth}
use Rattle.store_trace.specs.declared.event.Event.{Event}
use Rattle.text.specs.Numbers.{IsOf}
use Rattle.text.specs.declared.numbers.Number.{Number}
use Rattle.trace_file.specs.Entries.{ArePlaceWords, IsPlaceWord, Entry, act_text, entry_line, hart_of, last_line, line_end, place_text}
use Rattle.trace_file.specs.Files.{FitsItsLine, HasBadStore, HasEntry, HasLine, HasNoSuchLine, IsMisnumbered, IsWithinLimits}
use Rattle.trace_file.specs.Numerals.{numeral}
use Rattle.trace_file.specs.declared.acts.Act.{Act}
use Rattle.trace_file.specs.declared.fault.TraceFileCode.{TraceFileCode}
use Rattle.trace_file.specs.declared.fault.TraceFileCode.TheVariants as code
use Rattle.trace_file.specs.declared.judging.StoreNumbers.{StoreNumbers}
use Rattle.trace_file.specs.declared.judging.Written.{Written}
use Rattle.trace_file.specs.declared.lines.EntryLine.{EntryLine}
use Rattle.trace_file.specs.declared.lines.Line.{Line}
use Rattle.trace_file.specs.declared.lines.Line.TheVariants as kind

-- a text that begins with a place word and a blank
pub record BeginsWithPlace (text : List ℕ) : Type 0 where
  pub word : List ℕ
  pub rest : List ℕ
  pub is_word : IsPlaceWord word
  pub whole : text ≡ word ++ 32 ∷ rest

-- and what follows these
pub record IsBehindPlace (text rest : List ℕ) : Type 0 where
  pub word : List ℕ
  pub is_word : IsPlaceWord word
  pub whole : text ≡ word ++ 32 ∷ rest

-- bytes that all pass a test, one or more
abbrev pub IsFilledWith : (ℕ → Bool) → List ℕ → Type 0
IsFilledWith test bytes = (0 < length bytes) × (list_all test bytes ≡ true)

-- the text is all the place words with which it begins, and the rest
pub record HasPlaces (text place rest : List ℕ) : Type 0 where
  pub words : List (List ℕ)
  pub are_words : ArePlaceWords words
  pub spelled : place ≡ place_text words
  pub whole : text ≡ place ++ rest
  pub all : ¬ BeginsWithPlace rest

-- a number that is known so is this one, and at most the greatest
abbrev pub IsKept : Number → ℕ → ℕ → Type 0
IsKept number greatest kept = (n : ℕ) → IsOf n number → (n ≡ kept) × (n ≤ greatest)

-- a store of these numbers is aligned and lies in its line, and its value has its width
abbrev pub Fits : ℕ → ℕ → ℕ → Type 0
Fits offset width value = IsWidth width × (offset % width ≡ 0) × (offset < 64) × (value < 2 ^ (8 * width))

pub record IsFitting (offset width value : ℕ) (written : Written) : Type 0 where
  pub offset_is : offset ≡ written.offset
  pub width_is : width ≡ written.width
  pub value_is : value ≡ written.value
  pub fits : Fits offset width value

-- what is wrong with an event, by the lowest code: its store, or a limit
abbrev pub IsRefused : Event → TraceFileCode → Type 0
IsRefused event code.Store = ¬ FitsItsLine event
IsRefused event code.Limit = FitsItsLine event × (¬ IsWithinLimits event)
IsRefused event code.Form = ⊥
IsRefused event code.Number = ⊥
IsRefused event code.End = ⊥
IsRefused event code.Memory = ⊥

-- the event is this one
pub record IsAllowedAs (event kept : Event) : Type 0 where
  pub same : event ≡ kept
  pub fits : FitsItsLine event
  pub within : IsWithinLimits event

-- the event is this one and allowed, or it is refused
abbrev pub IsJudged : Event → Result Event TraceFileCode → Type 0
IsJudged event found = MatchResult found (IsAllowedAs event) (IsRefused event)

-- a keyword, a number that is known so, and the end of the line
pub record IsNumbered (keyword text : List ℕ) (number : Number) (rest : List ℕ) : Type 0 where
  pub value : ℕ
  pub whole : text ≡ keyword ++ (numeral 10 value ++ line_end rest)
  pub known : IsOf value number

-- a width and a value, as a store's line has them, and the rest
abbrev pub size_text : ℕ → ℕ → List ℕ → List ℕ
size_text width value rest = numeral 10 width ++ (codes " 0x" ++ (numeral 16 value ++ line_end rest))

pub record HasSize (text : List ℕ) (width value : Number) (rest : List ℕ) : Type 0 where
  pub w : ℕ
  pub v : ℕ
  pub whole : text ≡ size_text w v rest
  pub width_known : IsOf w width
  pub value_known : IsOf v value

-- all numbers of a store, and the rest
abbrev pub store_text : ℕ → ℕ → ℕ → ℕ → List ℕ → List ℕ
store_text line offset width value rest =
    codes "store l" ++ (numeral 10 line ++ (codes "+" ++ (numeral 10 offset ++ (codes " w" ++ size_text width value rest))))

pub record HasStore (text : List ℕ) (store : StoreNumbers) (rest : List ℕ) : Type 0 where
  pub l : ℕ
  pub o : ℕ
  pub w : ℕ
  pub v : ℕ
  pub whole : text ≡ store_text l o w v rest
  pub line_known : IsOf l store.line
  pub offset_known : IsOf o store.offset
  pub width_known : IsOf w store.width
  pub value_known : IsOf v store.value

-- the text begins with what an event of the hart did, which is judged so
pub record HasAct (text : List ℕ) (hart : ℕ) (act : Act) : Type 0 where
  pub event : Event
  pub of_hart : hart_of event ≡ hart
  pub whole : text ≡ act_text event act.rest.now
  pub judged : IsJudged event act.judged

-- the text begins with the line of an entry, with what is known of it
pub record HasEntryLine (text : List ℕ) (read : EntryLine) : Type 0 where
  pub number : ℕ
  pub words : List (List ℕ)
  pub event : Event
  pub are_words : ArePlaceWords words
  pub place : read.place.now ≡ place_text words
  pub whole : text ≡ entry_line number (record { places = words; event = event }) read.rest.now
  pub known : IsOf number read.number
  pub judged : IsJudged event read.judged

-- the next line is that of this event, at the place
pub record HasEvent (count : ℕ) (text : List ℕ) (event : Event) (place rest : List ℕ) : Type 0 where
  pub words : List (List ℕ)
  pub are_words : ArePlaceWords words
  pub place_is : place ≡ place_text words
  pub whole : text ≡ entry_line (count + 1) (record { places = words; event = event }) rest
  pub fits : FitsItsLine event
  pub within : IsWithinLimits event

-- the text begins with this line, behind so many entries
abbrev pub HasNext : ℕ → List ℕ → Line → Type 0
HasNext count text (kind.Event event place rest) = HasEvent count text event place.now rest.now
HasNext count text (kind.Last rest) = text ≡ last_line count rest.now

-- an event of the next line is past a limit of its own
pub record HasLargeNumber (count : ℕ) (text : List ℕ) : Type 0 where
  pub entry : Entry
  pub line : HasEntry text (count + 1) entry
  pub fits : FitsItsLine entry.event
  pub passed : ¬ IsWithinLimits entry.event

-- there is no line in a text that has none, and else none of a trace file
abbrev pub HasNoLine : List ℕ → TraceFileCode → Type 0
HasNoLine text code.Form = HasLine text
HasNoLine text code.End = ¬ HasLine text
HasNoLine text code.Number = ⊥
HasNoLine text code.Store = ⊥
HasNoLine text code.Limit = ⊥
HasNoLine text code.Memory = ⊥

-- what is wrong with the next line by itself
abbrev pub IsLineFault : ℕ → List ℕ → TraceFileCode → Type 0
IsLineFault count text code.Form = HasNoSuchLine text
IsLineFault count text code.Number = IsMisnumbered count text
IsLineFault count text code.Store = HasBadStore count text
IsLineFault count text code.Limit = HasLargeNumber count text
IsLineFault count text code.End = ¬ HasLine text
IsLineFault count text code.Memory = ⊥
