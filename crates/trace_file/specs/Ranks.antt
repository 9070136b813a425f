-- The lines of a trace by their ranks: their places among all lines that it names, upwards.
use Rattle.std.specs.Prelude.{◌≡◌, ◌+◌, ◌<◌, ◌≤◌, ℕ, List, [], ◌∷◌, All, length, map, slice_index}
use Rattle.std.specs.Borrow.{Bor}
use Rattle.std.specs.Global.{Vec}
use Rattle.store_trace.specs.TraceView.{NamesLine}
use Rattle.store_trace.specs.declared.event.Event.{Event}
use Rattle.store_trace.specs.declared.event.Event.TheVariants.{Store, Clean, Fence, Begin, End}
use Rattle.trace_file.specs.Entries.{Entry, last_line, place_text, placed_line}
use Rattle.trace_file.specs.Files.{lines_of}
use Rattle.trace_file.specs.declared.file.RankedTrace.{RankedTrace}

-- an event whose line is a rank, with the line of that rank in its place
abbrev pub named : List ℕ → Event → Event
named names (Store hart rank offset width value) = Store hart (slice_index names rank) offset width value
named names (Clean hart rank) = Clean hart (slice_index names rank)
named names (Fence hart) = Fence hart
named names (Begin hart op) = Begin hart op
named names (End hart op) = End hart op

-- what a contract sees of a trace file: the events by ranks, the text of each one's place words, and the lines by ranks
pub record FileView : Type 0 where
  pub events : List Event
  pub places : List (List ℕ)
  pub names : List ℕ

-- the file has these entries, by the ranks of their lines
pub record HasEntries (file : FileView) (entries : List Entry) : Type 0 where
  pub names : file.names ≡ lines_of entries
  pub ranks : All (NamesLine (length file.names)) file.events
  pub events : map (named file.names) file.events ≡ map (λ (entry : Entry). entry.event) entries
  pub places : file.places ≡ map (λ (entry : Entry). place_text entry.places) entries

-- the texts of lent places
abbrev pub texts_of : List (Bor (List ℕ)) → List (List ℕ)
texts_of places = map (λ (place : Bor (List ℕ)). place.now) places

-- the texts of places that were copied
abbrev pub copies_of : List (Vec ℕ) → List (List ℕ)
copies_of places = map (λ (place : Vec ℕ). place.items) places

-- the lines of events by ranks, with the texts of their places, numbered from one on, each line under its name; and the rest
abbrev pub file_lines : ℕ → List ℕ → List Event → List (List ℕ) → List ℕ → List ℕ
file_lines number names [] places rest = rest
file_lines number names (event ∷ events) [] rest = rest
file_lines number names (event ∷ events) (place ∷ places) rest =
    placed_line number place (named names event) (file_lines (number + 1) names events places rest)

-- the text that is written of a file
abbrev pub file_text : FileView → List ℕ
file_text file = file_lines 1 file.names file.events file.places (last_line (length file.events) [])

-- these lines are among the first `count`, or one isn't
abbrev pub AreWithin : List ℕ → ℕ → Type 0
AreWithin names count = (rank : ℕ) → rank < length names → slice_index names rank < count

abbrev pub LacksName : List ℕ → ℕ → Type 0
LacksName names count = (rank : ℕ) × (rank < length names) × (count ≤ slice_index names rank)

-- the names of `count` lines: that of each rank is the rank itself
pub record AreInOrder (count : ℕ) (names : List ℕ) : Type 0 where
  pub count_is : length names ≡ count
  pub own : (rank : ℕ) → rank < count → slice_index names rank ≡ rank

-- the same events by the names of their lines, over `count` lines, which are all that they name
pub record IsByNames (ranked : RankedTrace) (count : ℕ) (own : RankedTrace) : Type 0 where
  pub within : AreWithin ranked.names.items count
  pub events : own.trace.events ≡ map (named ranked.names.items) ranked.trace.events
  pub lines : All (NamesLine count) own.trace.events
  pub names : AreInOrder count own.names.items
  pub places : own.places ≡ ranked.places
