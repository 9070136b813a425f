-- What is noted of a run: events at which a processor may lose or reorder stores, where this machine doesn't.
-- Sources: RISC-V CMO 1.0, chapter 2 (an invalidate may drop stores of its block); RISC-V Unprivileged ISA 20191213, chapter 2, "Memory Ordering
-- Instructions" (a FENCE orders accesses of its predecessor set before those of its successor set, and before no others).
use Rattle.std.specs.Prelude.{◌≡◌, ℕ, ◌-◌, ◌/◌, ◌<◌, ◌==◌, ◌&&◌, Bool, true, false, not, nat_lt, List, [], ◌++◌, Option, Some, None, codes, decimal, slice_get, slice_index_or}
use Rattle.std.specs.List.{enumerate_from, find, flat_map}
use Rattle.isa_table.specs.declared.instruction.CacheOp.{CacheOp}
use Rattle.isa_table.specs.declared.instruction.CacheOp.TheVariants as caches
use Rattle.isa_table.specs.declared.instruction.Instr.{Instr}
use Rattle.isa_table.specs.declared.instruction.Instr.TheVariants as instrs
use Rattle.machine.specs.Traced.{events_in}
use Rattle.machine.specs.declared.run_trace.traced_event.TracedEvent.{TracedEvent}
use Rattle.store_trace.specs.Floor.{floor}
use Rattle.store_trace.specs.History.{at_moment}
use Rattle.store_trace.specs.Stores.{stores}
use Rattle.store_trace.specs.TraceView.{IsEvent, NamesLine}
use Rattle.store_trace.specs.declared.crash_model.step.PersistenceStep.{PersistenceStep}
use Rattle.store_trace.specs.declared.crash_model.step.PersistenceStep.TheVariants as step
use Rattle.store_trace.specs.declared.event.Event.{Event}
use Rattle.store_trace.specs.declared.event.Event.TheVariants.{Store, Clean, Fence, Begin, End}
use Rattle.report.specs.Events.{place_of}
use Rattle.report.specs.Places.{KnownOrigin, KnownPlace, line_end, place_text}
use Rattle.report.specs.Words.{AreWords}
use Rattle.report.specs.declared.disassembly.words.TextWord.{TextWord}
use Rattle.report.specs.declared.notes.Note.{Note}
use Rattle.report.specs.declared.notes.Note.TheVariants.{Invalidated, StoresPass}

-- the instruction that the words of a text have at a pc, if they have one; text begins at 0x10000
abbrev pub instr_of : Option TextWord → Option Instr
instr_of None = None
instr_of (Some one) = one.instr

abbrev pub instr_at : List TextWord → ℕ → Option Instr
instr_at words pc = instr_of (slice_get words ((pc - 0x1_0000) / 4))

-- the instruction is `cbo.inval`
abbrev pub invalidates : CacheOp → Bool
invalidates caches.Inval = true
invalidates caches.Clean = false
invalidates caches.Flush = false

abbrev pub is_inval : Option Instr → Bool
is_inval (Some (instrs.Cache op rs1)) = invalidates op
is_inval instr = false

-- the instruction is a FENCE whose successor set lacks w
abbrev pub lets_stores_pass : Option Instr → Bool
lets_stores_pass (Some (instrs.Fence predecessor successor)) = not successor.memory_writes
lets_stores_pass instr = false

-- after these steps a line has stores past its floor, which aren't in the medium for certain
abbrev pub is_unwritten : ℕ → List PersistenceStep → Bool
is_unwritten line p = nat_lt (floor line p) (stores line p)

-- a clean or a fence of a hart
abbrev pub is_of : ℕ → PersistenceStep → Bool
is_of hart (step.Store line offset width value) = false
is_of hart (step.Clean by line) = by == hart
is_of hart (step.Fence by) = by == hart
is_of hart (step.Evict line) = false

abbrev pub is_clean : Option PersistenceStep → Bool
is_clean (Some (step.Clean by line)) = true
is_clean found = false

-- the newest of them is a clean, which the hart's next fence completes
abbrev pub has_cleaned : ℕ → List PersistenceStep → Bool
has_cleaned hart p = is_clean (find (is_of hart) p)

-- so says this list of each of the eight harts
abbrev pub AreCleaned : List PersistenceStep → List Bool → Type 0
AreCleaned p cleaned = (hart : ℕ) (d : Bool) → hart < 8 → slice_index_or cleaned hart d ≡ has_cleaned hart p

-- what is noted of an event after these steps, whose instruction this is
abbrev pub note_if : Bool → Note → Option Note
note_if true note = Some note
note_if false note = None

abbrev pub noted : Option Instr → List PersistenceStep → Event → Option Note
noted instr p (Store hart line offset width value) = None
noted instr p (Clean hart line) = note_if (is_inval instr && is_unwritten line p) (Invalidated line)
noted instr p (Fence hart) = note_if (lets_stores_pass instr && has_cleaned hart p) StoresPass
noted instr p (Begin hart op) = None
noted instr p (End hart op) = None

-- the event has a hart and a line that are there
abbrev pub IsThere : ℕ → TracedEvent → Type 0
IsThere lines one = IsEvent one.event × NamesLine lines one.event

-- the words of a note on the event of a number, by where that was made
abbrev pub note_text : ℕ → KnownPlace → Note → List ℕ
note_text number place (Invalidated line) = codes "note: l" ++ (decimal line ++ (codes " invalidated at " ++ (decimal number ++ (codes " " ++ (place_text place
    ++ codes " with stores not written back: cbo.inval acts as cbo.flush here, where a processor may lose them")))))
note_text number place StoresPass = codes "note: fence at " ++ (decimal number ++ (codes " " ++ (place_text place
    ++ codes " has no w among its successors: a processor lets later stores pass it")))

-- its line, where there is a note
abbrev pub told_note : ℕ → KnownPlace → Option Note → List ℕ
told_note number place None = []
told_note number place (Some note) = note_text number place note ++ line_end

-- that of the event of a number of a run, from 1
abbrev pub note_line : (ℕ → KnownOrigin) → List TextWord → List TracedEvent → ℕ × TracedEvent → List ℕ
note_line origins words traced t =
    told_note t.0 (place_of origins t.1) (noted (instr_at words t.1.pc) (at_moment (events_in traced) (t.0 - 1)) t.1.event)

abbrev pub notes_text : (ℕ → KnownOrigin) → List TextWord → List TracedEvent → List ℕ
notes_text origins words traced = flat_map (note_line origins words traced) (enumerate_from 1 traced)

-- the notes on all events, by the program's text
abbrev pub AreNotes : List ℕ → (ℕ → KnownOrigin) → List TracedEvent → List ℕ → Type 0
AreNotes text origins traced notes = (words : List TextWord) × AreWords text words × (notes ≡ notes_text origins words traced)
