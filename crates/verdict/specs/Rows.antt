-- The moments of a run that are asked for: from one to another, or to the last.
use Rattle.std.specs.Prelude.{ℕ, ◌+◌, List, Option, Some, None, length, min}
use Rattle.store_trace.specs.declared.event.Event.{Event}

-- one past the last of them: a moment past those of the run counts as its last one
abbrev pub end_of : List Event → Option ℕ → ℕ
end_of events None = length events + 1
end_of events (Some last) = min last (length events) + 1
