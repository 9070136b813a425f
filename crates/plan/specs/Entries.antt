-- The entries that an operation plans, each with the inode to whose log it goes.
-- Source: NOVA, FAST 2016: an append goes to one inode's log, a rename to two.
use Rattle.std.specs.Prelude.{ℕ, List, [], ◌∷◌}
use Rattle.nova_log.specs.declared.volume.entry.EntryKind.{EntryKind}
use Rattle.nova_log.specs.declared.volume.entry.EntryKind.TheVariants as kind
use Rattle.plan.specs.declared.operation.Action.{Action}
use Rattle.plan.specs.declared.operation.Action.TheVariants.{Append, Rename}
use Rattle.plan.specs.declared.operation.Operation.{Operation}
use Rattle.plan.specs.declared.operation.PlannedEntry.{PlannedEntry}

abbrev pub entry : ℕ → ℕ → EntryKind → List ℕ → ℕ → PlannedEntry
entry number inode kind name value =
    record { inode = inode; entry = record { operation = number; kind = kind; name = name; value = value } }

-- a value is written to an inode; a name goes away from one inode and comes to another
abbrev pub entries_by : ℕ → Action → List PlannedEntry
entries_by number (Append inode value) = entry number inode kind.Write [] value ∷ []
entries_by number (Rename from to name value) =
    entry number from kind.RemoveName name value ∷ entry number to kind.AddName name value ∷ []

abbrev pub entries_of : Operation → List PlannedEntry
entries_of operation = entries_by operation.number operation.action
