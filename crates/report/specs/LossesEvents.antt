-- An event of a run by its number, with its place in the program.
use Rattle.std.specs.Prelude.{ℕ, List, ◌++◌, Option, Some, None, codes, decimal, option_map, zero, suc, slice_get}
use Rattle.report.specs.Events.{place_of}
use Rattle.report.specs.Places.{KnownOrigin, KnownPlace, place_text}
use Rattle.machine.specs.declared.run_trace.traced_event.TracedEvent.{TracedEvent}

-- event n of a run, the first of which is event 1
abbrev pub traced_at : List TracedEvent → ℕ → Option TracedEvent
traced_at traced zero = None
traced_at traced (suc before) = slice_get traced before

-- where it was made, by what is known of each pc
abbrev pub place_in : (ℕ → KnownOrigin) → List TracedEvent → ℕ → Option KnownPlace
place_in origins traced n = option_map (place_of origins) (traced_at traced n)

-- `N hH pc=0xP`, with what is known of the pc behind it; `N` where the run has no such event
abbrev pub named_text : ℕ → Option KnownPlace → List ℕ
named_text number None = decimal number
named_text number (Some place) = decimal number ++ (codes " " ++ place_text place)

abbrev pub event_text : (ℕ → KnownOrigin) → List TracedEvent → ℕ → List ℕ
event_text origins traced n = named_text n (place_in origins traced n)
