-- What the index of a trace keeps of each line, once the first n events were read. Here `past m` stands for the
-- persistence steps of moment m, the newest first.
use Rattle.std.specs.Prelude.{◌≡◌, ℕ, ◌+◌, ◌-◌, ◌<◌, ◌≤◌, ◌==◌, ◌%◌, nat_lt, List, [], ◌∷◌, ◌++◌, length, if◌then◌else◌, slice_index_or}
use Rattle.store_trace.specs.Floor.{floor}
use Rattle.store_trace.specs.Image.{line_after}
use Rattle.store_trace.specs.Stores.{stores}
use Rattle.store_trace.specs.declared.crash_model.step.PersistenceStep.{PersistenceStep}
use Rattle.store_trace.specs.TraceView.{IsWidth}
use Rattle.word_bits.specs.Bytes.{stored}
use Rattle.line_memory.specs.Lines.{line_at}
use Rattle.crash_image.specs.declared.trace_index.line.Raise.{Raise}
use Rattle.crash_image.specs.declared.trace_index.line.Stored.{Stored}
use Rattle.crash_image.specs.declared.trace_index.line.StoredLine.{StoredLine}

-- the stores of a line and the raises of its floor, the oldest first
pub record LineView : Type 0 where
  pub stores : List StoredLine
  pub raises : List Raise

abbrev pub store_event : StoredLine → ℕ
store_event store = store.event

abbrev pub raise_event : Raise → ℕ
raise_event raise = raise.event

-- just the first `count` elements of the list are of events before the moment
pub record IsPlace {X : Type 0} (event : X → ℕ) (xs : List X) (moment count : ℕ) : Type 0 where
  pub within : count ≤ length xs
  pub below : (i : ℕ) (d : X) → i < count → event (slice_index_or xs i d) < moment
  pub above : (i : ℕ) (d : X) → count ≤ i → i < length xs → moment ≤ event (slice_index_or xs i d)

-- the bytes after the first `count` stores
abbrev pub bytes_before : List ℕ → List StoredLine → ℕ → List ℕ
bytes_before start made count =
    if count == 0 then start else (slice_index_or made (count - 1) (record { event = 0; bytes = [] })).bytes

-- the floor after the first `count` raises
abbrev pub floor_before : List Raise → ℕ → ℕ
floor_before raises count =
    if count == 0 then 0 else (slice_index_or raises (count - 1) (record { event = 0; floor = 0 })).floor

-- the floor after all raises
abbrev pub last_floor : List Raise → ℕ
last_floor raises = floor_before raises (length raises)

-- the raises with one more by this event, where it is one
abbrev pub raised_to : List Raise → ℕ → ℕ → List Raise
raised_to raises event number =
    if nat_lt (last_floor raises) number then raises ++ record { event = event; floor = number } ∷ [] else raises

-- no store yet
abbrev pub unstored : LineView
unstored = record { stores = []; raises = [] }

-- the store is one of a line's bytes, aligned
pub record FitsLine (store : Stored) : Type 0 where
  pub width : IsWidth store.width
  pub aligned : store.offset % store.width ≡ 0
  pub offset : store.offset < 64

-- the stores of a line that started with these bytes, with one more
abbrev pub with_store : List ℕ → List StoredLine → Stored → List StoredLine
with_store start made store =
    made ++ record { event = store.event; bytes = stored (bytes_before start made (length made)) store.offset store.width store.value } ∷ []

-- all of them are of events before the moment
pub record AreBefore (line : LineView) (moment : ℕ) : Type 0 where
  pub stores : (i : ℕ) (d : StoredLine) → i < length line.stores → (slice_index_or line.stores i d).event < moment
  pub raises : (i : ℕ) (d : Raise) → i < length line.raises → (slice_index_or line.raises i d).event < moment

-- the stores of line l among the first n events, each with the line's bytes after it
pub record AreStores (start : List ℕ) (l : ℕ) (past : ℕ → List PersistenceStep) (n : ℕ) (made : List StoredLine) : Type 0 where
  pub count : length made ≡ stores l (past n)
  pub few : length made ≤ n
  pub early : (i : ℕ) (d : StoredLine) → i < length made → (slice_index_or made i d).event < n
  pub place : (m : ℕ) → m ≤ n → IsPlace store_event made m (stores l (past m))
  pub bytes : (i : ℕ) (d : StoredLine) → i < length made → (slice_index_or made i d).bytes ≡ line_after start l (i + 1) (past n)

-- the raises before moment m end with this floor
pub record IsFloorAt (raises : List Raise) (m number : ℕ) : Type 0 where
  pub count : ℕ
  pub place : IsPlace raise_event raises m count
  pub value : floor_before raises count ≡ number

-- the raises of the floor of line l up to event n, of which event n itself may be read in part
pub record AreRaises (l : ℕ) (past : ℕ → List PersistenceStep) (n : ℕ) (raises : List Raise) : Type 0 where
  pub early : (i : ℕ) (d : Raise) → i < length raises → (slice_index_or raises i d).event ≤ n
  pub floors : (m : ℕ) → m ≤ n → IsFloorAt raises m (floor l (past m))

-- both lists of line l
pub record IsLine (start : List ℕ) (l : ℕ) (past : ℕ → List PersistenceStep) (n : ℕ) (line : LineView) : Type 0 where
  pub stored : AreStores start l past n line.stores
  pub raised : AreRaises l past n line.raises

-- those of all lines, after the first n events
pub record AreLines (start : List (List ℕ)) (past : ℕ → List PersistenceStep) (n : ℕ) (lines : List LineView) : Type 0 where
  pub size : length start ≤ length lines
  pub each : (l : ℕ) (d : LineView) → l < length start → IsLine (line_at start l) l past n (slice_index_or lines l d)
  pub settled : (l : ℕ) (d : LineView) → l < length start → last_floor (slice_index_or lines l d).raises ≡ floor l (past n)
