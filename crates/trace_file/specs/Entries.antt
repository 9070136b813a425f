-- The lines of a trace file, each with what follows it.
-- Source: this project's own format.
use Rattle.std.specs.Prelude.{◌≡◌, ◌<◌, ◌+◌, ◌==◌, ◌&&◌, ℕ, Bool, true, not, List, [], ◌∷◌, ◌++◌, codes, length, nat_le}
use Rattle.std.specs.List.{AllByRecursion, list_all}
use Rattle.store_trace.specs.declared.event.Event.{Event}
use Rattle.store_trace.specs.declared.event.Event.TheVariants.{Store, Clean, Fence, Begin, End}
use Rattle.trace_file.specs.Numerals.{numeral}

-- an event, with the words that say where it was made
pub record Entry : Type 0 where
  pub places : List (List ℕ)
  pub event : Event

-- `a` to `z`
abbrev pub is_letter : ℕ → Bool
is_letter byte = nat_le 97 byte && nat_le byte 122

-- neither a blank nor a line end
abbrev pub is_place_byte : ℕ → Bool
is_place_byte byte = not (byte == 32) && not (byte == 10)

-- letters, `=`, and bytes
pub record IsPlaceWord (word : List ℕ) : Type 0 where
  pub name : List ℕ
  pub value : List ℕ
  pub spelled : word ≡ name ++ (codes "=" ++ value)
  pub some_letters : 0 < length name
  pub letters : list_all is_letter name ≡ true
  pub some_bytes : 0 < length value
  pub bytes : list_all is_place_byte value ≡ true

abbrev pub ArePlaceWords : List (List ℕ) → Type 0
ArePlaceWords words = AllByRecursion IsPlaceWord words

-- the words, each with a blank behind it
abbrev pub place_text : List (List ℕ) → List ℕ
place_text [] = []
place_text (word ∷ words) = word ++ (codes " " ++ place_text words)

-- the hart that made an event
abbrev pub hart_of : Event → ℕ
hart_of (Store hart line offset width value) = hart
hart_of (Clean hart line) = hart
hart_of (Fence hart) = hart
hart_of (Begin hart op) = hart
hart_of (End hart op) = hart

-- the end of a line, LF, and the rest
abbrev pub line_end : List ℕ → List ℕ
line_end rest = 10 ∷ rest

-- what an event did, as a line says it, and the rest
abbrev pub act_text : Event → List ℕ → List ℕ
act_text (Store hart line offset width value) rest = codes "store l" ++ (numeral 10 line ++ (codes "+" ++ (numeral 10 offset
    ++ (codes " w" ++ (numeral 10 width ++ (codes " 0x" ++ (numeral 16 value ++ line_end rest)))))))
act_text (Clean hart line) rest = codes "clean l" ++ (numeral 10 line ++ line_end rest)
act_text (Fence hart) rest = codes "fence" ++ line_end rest
act_text (Begin hart op) rest = codes "begin " ++ (numeral 10 op ++ line_end rest)
act_text (End hart op) rest = codes "end " ++ (numeral 10 op ++ line_end rest)

-- the line of an event: its number, the hart, the text of its place, what the event did; and the rest
abbrev pub placed_line : ℕ → List ℕ → Event → List ℕ → List ℕ
placed_line number place event rest = numeral 10 number ++ (codes " h" ++ (numeral 10 (hart_of event)
    ++ (codes " " ++ (place ++ act_text event rest))))

abbrev pub entry_line : ℕ → Entry → List ℕ → List ℕ
entry_line number entry rest = placed_line number (place_text entry.places) entry.event rest

-- the last line, with the number of entries; and the rest
abbrev pub last_line : ℕ → List ℕ → List ℕ
last_line total rest = codes "events " ++ (numeral 10 total ++ line_end rest)

-- the lines of entries, numbered from one on; and the rest
abbrev pub lines_from : ℕ → List Entry → List ℕ → List ℕ
lines_from number [] rest = rest
lines_from number (entry ∷ entries) rest = entry_line number entry (lines_from (number + 1) entries rest)

-- the text of a trace file with these entries
abbrev pub trace_text : List Entry → List ℕ
trace_text entries = lines_from 1 entries (last_line (length entries) [])
