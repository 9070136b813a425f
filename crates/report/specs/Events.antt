-- What is printed of a run's events.
use Rattle.std.specs.Prelude.{ℕ, ◌-◌, ◌%◌, ◌^◌, ◌*◌, List, [], ◌++◌, Option, Some, None, codes, decimal, length, slice_get}
use Rattle.std.specs.Global.{Vec}
use Rattle.std.specs.List.{enumerate_from, flat_map}
use Rattle.hart.specs.HartLines.{hexadecimal}
use Rattle.machine.specs.declared.run_trace.traced_event.TracedEvent.{TracedEvent}
use Rattle.store_trace.specs.declared.event.Event.{Event}
use Rattle.store_trace.specs.declared.event.Event.TheVariants.{Store, Clean, Fence, Begin, End}
use Rattle.report.specs.Places.{KnownCode, KnownOrigin, KnownPlace, code_place, code_text, known_code, line_end, told_words}
use Rattle.report.specs.declared.events.PlacedEvent.{PlacedEvent}

-- the hart that made an event
abbrev pub hart_of : Event → ℕ
hart_of (Store hart line offset width value) = hart
hart_of (Clean hart line) = hart
hart_of (Fence hart) = hart
hart_of (Begin hart op) = hart
hart_of (End hart op) = hart

-- where an event was made, by what is known of each pc
abbrev pub place_of : (ℕ → KnownOrigin) → TracedEvent → KnownPlace
place_of origins traced = record { hart = hart_of traced.event; at = code_place origins traced.pc }

-- an event with the hart step that made it, the pc before that step, and what is known there
pub record KnownEvent : Type 0 where
  pub step : ℕ
  pub at : KnownCode
  pub event : Event

abbrev pub placed : (ℕ → KnownOrigin) → TracedEvent → KnownEvent
placed origins traced = record { step = traced.step; at = code_place origins traced.pc; event = traced.event }

-- the words of a line of a trace file; none past its lines
abbrev pub line_words : Option (Vec ℕ) → List ℕ
line_words None = []
line_words (Some words) = words.items

-- The event of a number as it is printed whole: of a trace file with all place words of its line, each behind a blank.
abbrev pub whole : (ℕ → KnownOrigin) → Option (Vec (Vec ℕ)) → ℕ → TracedEvent → KnownEvent
whole origins None number traced = placed origins traced
whole origins (Some lines) number traced = record {
  step = traced.step;
  at = record { pc = traced.pc; origin = told_words (line_words (slice_get lines.items (number - 1))) };
  event = traced.event;
}

-- the same of the program's own value
abbrev pub known_event : PlacedEvent → KnownEvent
known_event one = record { step = one.step; at = known_code one.at; event = one.event }

-- the kind of an event in a word
abbrev pub kind_of : Event → List ℕ
kind_of (Store hart line offset width value) = codes "store"
kind_of (Clean hart line) = codes "clean"
kind_of (Fence hart) = codes "fence"
kind_of (Begin hart op) = codes "begin"
kind_of (End hart op) = codes "end"

-- what an event did: of a store the line, the offset in it, the width in bytes, and the number of the bytes that were stored
abbrev pub act_text : Event → List ℕ
act_text (Store hart line offset width value) = codes " l" ++ (decimal line ++ (codes "+" ++ (decimal offset
    ++ (codes " w" ++ (decimal width ++ (codes " 0x" ++ hexadecimal (value % 2 ^ (8 * width))))))))
act_text (Clean hart line) = codes " l" ++ decimal line
act_text (Fence hart) = []
act_text (Begin hart op) = codes " " ++ decimal op
act_text (End hart op) = codes " " ++ decimal op

-- ` step=S`; place words say it themselves
abbrev pub step_text : ℕ → KnownOrigin → List ℕ
step_text step (told_words words) = []
step_text step origin = codes " step=" ++ decimal step

-- `hH step=S pc=0xP`, what is known there, and what the event did; or `hH` and place words
abbrev pub placed_text : KnownEvent → List ℕ
placed_text one = codes "h" ++ (decimal (hart_of one.event) ++ (step_text one.step one.at.origin
    ++ (code_text one.at ++ (codes " " ++ (kind_of one.event ++ act_text one.event)))))

-- the line of an event with its number, from 1, by what is known of each pc
abbrev pub numbered_line : (ℕ → KnownOrigin) → ℕ × TracedEvent → List ℕ
numbered_line origins t = decimal t.0 ++ (codes " " ++ (placed_text (placed origins t.1) ++ line_end))

-- a line for each event, and `events N`
abbrev pub trace_text : (ℕ → KnownOrigin) → List TracedEvent → List ℕ
trace_text origins traced =
    flat_map (numbered_line origins) (enumerate_from 1 traced) ++ (codes "events " ++ (decimal (length traced) ++ line_end))
