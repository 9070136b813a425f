-- What a contract sees of a trace, and which events it may hold.
-- Source: RISC-V Unprivileged ISA 20191213, chapter 2 (aligned loads and stores), with lines of 64 bytes.
use Rattle.std.specs.Prelude.{◌≡◌, ℕ, ◌%◌, ◌<◌, ◌⊎◌, List}
use Rattle.store_trace.specs.declared.event.Event.{Event}
use Rattle.store_trace.specs.declared.event.Event.TheVariants.{Store, Clean, Fence, Begin, End}

-- the events, the oldest first, and how many more places are reserved for them
pub record TraceView : Type 0 where
  pub events : List Event
  pub room : ℕ

-- a number of bytes that one store writes
abbrev pub IsWidth : ℕ → Type 0
IsWidth width = (width ≡ 1) ⊎ (width ≡ 2) ⊎ (width ≡ 4) ⊎ (width ≡ 8)

-- there are eight harts, and a store is aligned and lies in its line
abbrev pub IsEvent : Event → Type 0
IsEvent (Store hart line offset width value) = (hart < 8) × IsWidth width × (offset % width ≡ 0) × (offset < 64)
IsEvent (Clean hart line) = hart < 8
IsEvent (Fence hart) = hart < 8
IsEvent (Begin hart op) = hart < 8
IsEvent (End hart op) = hart < 8

-- the line that an event names, if it names one, is among the first `count`
abbrev pub NamesLine : ℕ → Event → Type 0
NamesLine count (Store hart line offset width value) = line < count
NamesLine count (Clean hart line) = line < count
NamesLine count (Fence hart) = Unit {0}
NamesLine count (Begin hart op) = Unit {0}
NamesLine count (End hart op) = Unit {0}
