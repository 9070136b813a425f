-- Events of a trace file as they are told: by the names of their lines, and with where each was made.
use Rattle.std.specs.Prelude.{◌≡◌, ◌+◌, ◌<◌, ℕ, Bool, true, false, List, Some, All, Contains, length, map, slice_get, slice_index_or}
use Rattle.std.specs.Cmp.Lexicographic.{slice_cmp}
use Rattle.std.specs.Global.{Vec}
use Rattle.std.specs.List.{range_with_len}
use Rattle.std.specs.List.Sorted.{IsSorted}
use Rattle.std.specs.Ordering.{is_lt, nat_cmp}
use Rattle.std.specs.declared.cmp.Ordering.{Ordering}
use Rattle.machine.specs.declared.run_trace.traced_event.TracedEvent.{TracedEvent}
use Rattle.store_trace.specs.declared.event.Event.{Event}
use Rattle.report.specs.Places.{KnownOrigin, by_words, origin_in, told_words}
use Rattle.report.specs.declared.told.ToldEvents.{ToldEvents}
use Rattle.trace_file.specs.Ranks.{copies_of, named}
use Rattle.trace_file.specs.Spaced.{spaced_words}
use Rattle.trace_file.specs.declared.file.RankedTrace.{RankedTrace}

-- a place is below another by their bytes
abbrev pub is_below : List ℕ → List ℕ → Bool
is_below place other = is_lt (slice_cmp nat_cmp place other)

abbrev pub compare : Vec ℕ → Vec ℕ → Ordering
compare one other = slice_cmp nat_cmp one.items other.items

-- the place words of each text that are told
abbrev pub spaced_in : Bool → List (Vec ℕ) → List (List ℕ)
spaced_in with_steps texts = map (λ (text : Vec ℕ). spaced_words with_steps text.items) texts

-- places that go upwards, with one of them there
pub record IsAmong (places : List (Vec ℕ)) (place : List ℕ) : Type 0 where
  pub upwards : IsSorted compare places
  pub there : Contains (copies_of places) place

-- and with that of each text there
pub record ArePlacesOf (texts places : List (Vec ℕ)) : Type 0 where
  pub upwards : IsSorted compare places
  pub all : (k : ℕ) (d : Vec ℕ) → k < length texts → Contains (copies_of places) (spaced_words false (slice_index_or texts k d).items)

-- the place of a number
abbrev pub numbered : List (Vec ℕ) → ℕ → KnownOrigin
numbered places number = by_words (slice_get places number)

-- a number stands for its place alone, and those of the places below it are lower
abbrev pub IsFirst : (ℕ → KnownOrigin) → ℕ → Type 0
IsFirst origins number = (k : ℕ) (place other : List ℕ) → k < number → origins number ≡ told_words place → origins k ≡ told_words other
    → is_below other place ≡ true

pub record HasNumber (places : List (Vec ℕ)) (place : List ℕ) (number : ℕ) : Type 0 where
  pub there : numbered places number ≡ told_words place
  pub first : IsFirst (numbered places) number

abbrev pub event_of : TracedEvent → Event
event_of one = one.event

abbrev pub origin_by : (ℕ → KnownOrigin) → TracedEvent → KnownOrigin
origin_by origins one = origins one.pc

-- the place that a text says, without words of steps
abbrev pub place_of : Vec ℕ → KnownOrigin
place_of text = told_words (spaced_words false text.items)

abbrev pub step_of : TracedEvent → ℕ
step_of one = one.step

-- the number of the line at an index
abbrev pub line_number : ℕ → ℕ
line_number index = index + 1

-- events by the names of their lines, each with the numbers of its line and of its place
pub record ArePlaced (names : List ℕ) (events : List Event) (texts : List (Vec ℕ)) (origins : ℕ → KnownOrigin) (traced : List TracedEvent) : Type 0 where
  pub events_are : map event_of traced ≡ map (named names) events
  pub places_are : map (origin_by origins) traced ≡ map place_of texts
  pub first : All (λ (one : TracedEvent). IsFirst origins one.pc) traced
  pub steps_are : map step_of traced ≡ map line_number (range_with_len 0 (length events))

-- the events that are told, each with its step and its pc, or with the numbers that stand for these
abbrev pub events_in : ToldEvents → List TracedEvent
events_in told = told.traced.items

-- those of a file, and with all place words of each line
pub record AreOfFile (ranked : RankedTrace) (told : ToldEvents) : Type 0 where
  pub placed : ArePlaced ranked.names.items ranked.trace.events ranked.places.items (origin_in told.places) (events_in told)
  pub lines : Vec (Vec ℕ)
  pub lines_are : told.lines ≡ Some lines
  pub words : copies_of lines.items ≡ spaced_in true ranked.places.items
