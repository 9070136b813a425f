-- The entries of a trace file that a run's events are.
use Rattle.std.specs.Prelude.{⊤, ℕ, ◌<◌, ◌%◌, ◌^◌, ◌*◌, List, [], ◌∷◌, ◌++◌, Option, Some, None, IfSome, codes}
use Rattle.machine.specs.declared.run_trace.traced_event.TracedEvent.{TracedEvent}
use Rattle.store_trace.specs.TraceView.{IsEvent}
use Rattle.store_trace.specs.declared.event.Event.{Event}
use Rattle.store_trace.specs.declared.event.Event.TheVariants.{Store, Clean, Fence, Begin, End}
use Rattle.report.specs.Places.{InFile, InFunction, KnownOrigin, executable, nowhere, source_line, told_words}
use Rattle.report.specs.PrintedNames.{printed_name}
use Rattle.trace_file.specs.Entries.{Entry}
use Rattle.trace_file.specs.Files.{IsWithinLimits}
use Rattle.trace_file.specs.Numerals.{numeral}

-- an event whose store has the number of the bytes that it writes
abbrev pub printed_event : Event → Event
printed_event (Store hart line offset width value) = Store hart line offset width (value % 2 ^ (8 * width))
printed_event (Clean hart line) = Clean hart line
printed_event (Fence hart) = Fence hart
printed_event (Begin hart op) = Begin hart op
printed_event (End hart op) = End hart op

-- `in=NAME+0xOFF` and `at=FILE:LINE`; no word where there is none
abbrev pub function_words : Option InFunction → List (List ℕ)
function_words None = []
function_words (Some place) = (codes "in=" ++ (printed_name place.0 ++ (codes "+0x" ++ numeral 16 place.1))) ∷ []

abbrev pub line_words : Option InFile → List (List ℕ)
line_words None = []
line_words (Some line) = (codes "at=" ++ (printed_name line.0 ++ (codes ":" ++ numeral 10 line.1))) ∷ []

-- `line=N` of a source, `at=FILE:LINE in=NAME+0xOFF` of an executable; no word where nothing is known
abbrev pub origin_words : KnownOrigin → List (List ℕ)
origin_words nowhere = []
origin_words (source_line line) = (codes "line=" ++ numeral 10 line) ∷ []
origin_words (executable place) = line_words place.line ++ function_words place.function
origin_words (told_words words) = []

-- `step=S pc=0xP`, and what is known there
abbrev pub place_words : (ℕ → KnownOrigin) → TracedEvent → List (List ℕ)
place_words origins traced =
    (codes "step=" ++ numeral 10 traced.step) ∷ (codes "pc=0x" ++ numeral 16 traced.pc) ∷ origin_words (origins traced.pc)

-- the entry of an event, by what is known of each pc
abbrev pub entry_of : (ℕ → KnownOrigin) → TracedEvent → Entry
entry_of origins traced = record { places = place_words origins traced; event = printed_event traced.event }

-- a line below 2^32, an offset below 2^64; no events of a trace file, whose text is printed as it is
abbrev pub HasNumbers : KnownOrigin → Type 0
HasNumbers nowhere = ⊤
HasNumbers (source_line line) = line < 2 ^ 32
HasNumbers (executable place) =
    IfSome place.line (λ (line : InFile). line.1 < 2 ^ 32) × IfSome place.function (λ (function : InFunction). function.1 < 2 ^ 64)
HasNumbers (told_words words) = ⊥

-- an event that a trace may have, whose numbers have 32 or 64 bits
pub record HasSizes (origins : ℕ → KnownOrigin) (traced : TracedEvent) : Type 0 where
  pub step : traced.step < 2 ^ 32
  pub pc : traced.pc < 2 ^ 64
  pub origin : HasNumbers (origins traced.pc)
  pub event : IsEvent traced.event
  pub within : IsWithinLimits traced.event
