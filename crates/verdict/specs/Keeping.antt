-- Events that no image shows to a recovery that asks these lines.
-- This project's own: what such an event changes lies in lines that recovery doesn't look at.
use Rattle.std.specs.Prelude.{◌≡◌, Bool, false, List}
use Rattle.verdict.specs.Numbers.{is_flagged}
use Rattle.store_trace.specs.declared.event.Event.{Event}
use Rattle.store_trace.specs.declared.event.Event.TheVariants.{Store, Clean, Fence, Begin, End}

-- the event is no store to a flagged line
abbrev pub IsUnseen : List Bool → Event → Type 0
IsUnseen flags (Store hart line offset width value) = is_flagged line flags ≡ false
IsUnseen flags (Clean hart line) = Unit {0}
IsUnseen flags (Fence hart) = Unit {0}
IsUnseen flags (Begin hart op) = Unit {0}
IsUnseen flags (End hart op) = Unit {0}
