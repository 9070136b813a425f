-- When a moment passes because the moment before it does.
-- This project's own: an event that no image shows, and that forbids no volume, spoils no pass.
use Rattle.std.specs.Prelude.{Bool, List}
use Rattle.verdict.specs.Keeping.{IsUnseen}
use Rattle.store_trace.specs.declared.event.Event.{Event}
use Rattle.store_trace.specs.declared.event.Event.TheVariants.{Store, Clean, Fence, Begin, End}

-- The event changes nothing that recovery looks at, where it looks at the flagged lines alone, and each legal volume stays legal: it is
-- no End.
abbrev pub KeepsPass : List Bool → Event → Type 0
KeepsPass flags (Store hart line offset width value) = IsUnseen flags (Store hart line offset width value)
KeepsPass flags (Clean hart line) = IsUnseen flags (Clean hart line)
KeepsPass flags (Fence hart) = IsUnseen flags (Fence hart)
KeepsPass flags (Begin hart op) = IsUnseen flags (Begin hart op)
KeepsPass flags (End hart op) = ⊥
