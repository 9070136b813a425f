-- What a plan has each operation append.
-- Source: NOVA, FAST 2016: an operation appends an entry to the log of each inode that it changes.
use Rattle.std.specs.Prelude.{ℕ, ◌==◌, List, [], Option, map, find}
use Rattle.std.specs.Option.{option_map_or}
use Rattle.plan.specs.Entries.{entries_of}
use Rattle.plan.specs.declared.operation.Operation.{Operation}
use Rattle.plan.specs.declared.operation.PlannedEntry.{PlannedEntry}

-- the operation of this number
abbrev pub operation_of : List Operation → ℕ → Option Operation
operation_of plan op = find (λ o. o.number == op) plan

-- the entries that the operation of this number adds, each with its inode; none where the plan lacks the operation
abbrev pub planned : List Operation → ℕ → List PlannedEntry
planned plan op = option_map_or entries_of (operation_of plan op) []

-- the inodes to which it adds
abbrev pub inodes_of : List Operation → ℕ → List ℕ
inodes_of plan op = map (λ e. e.inode) (planned plan op)
