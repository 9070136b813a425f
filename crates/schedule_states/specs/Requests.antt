-- Requests of harts over the memory of a state.
use Rattle.std.specs.Prelude.{ℕ, ◌==◌, Bool, false, Option, Some, None}
use Rattle.machine.specs.Histories as histories
use Rattle.schedule_states.specs.declared.request.Write.{Write}

-- a hart that has reserved this line, or none, has reserved line l
abbrev pub is_reserved : Option ℕ → ℕ → Bool
is_reserved None l = false
is_reserved (Some line) l = line == l

-- the write, as the definition of a history has it
abbrev pub write_of : Write → histories.Write
write_of write = record { address = write.address; width = write.width; value = write.value }
