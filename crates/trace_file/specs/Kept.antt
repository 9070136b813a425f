-- What is kept of the lines that were read.
use Rattle.std.specs.Prelude.{◌≡◌, ℕ, List, Option, IfSome, map}
use Rattle.std.specs.Borrow.{Bor}
use Rattle.trace_file.specs.Entries.{Entry, place_text}
use Rattle.trace_file.specs.declared.kept.Kept.{Kept}

-- the events of the entries, and the text of each one's place
pub record HoldsEntries (entries : List Entry) (kept : Kept) : Type 0 where
  pub events : kept.events.items ≡ map (λ (entry : Entry). entry.event) entries
  pub places : map (λ (place : Bor (List ℕ)). place.now) kept.places.items ≡ map (λ (entry : Entry). place_text entry.places) entries

-- nothing is kept where memory was refused
abbrev pub KeepsAll : List Entry → Option Kept → Type 0
KeepsAll entries kept = IfSome kept (HoldsEntries entries)
