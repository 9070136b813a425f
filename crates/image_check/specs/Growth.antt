-- How a volume grows by entries, and which operations a volume shows.
-- Source: NOVA, FAST 2016: logs grow at their ends alone, so a log tells by its length what was appended.
use Rattle.std.specs.Prelude.{◌≡◌, ℕ, ◌==◌, ◌&&◌, ◌<◌, nat_lt, Bool, false, List, [], ◌∷◌, length, count_by, filter, Option, Some, None, option_and_then}
use Rattle.std.specs.List.{AllPairs, Contains, filter_map, flat_map, list_all}
use Rattle.plan.specs.declared.operation.Operation.{Operation}
use Rattle.plan.specs.declared.operation.PlannedEntry.{PlannedEntry}
use Rattle.store_trace.specs.declared.event.Event.{Event}
use Rattle.store_trace.specs.declared.event.Event.TheVariants.{Store, Clean, Fence, Begin, End}
use Rattle.nova_log.specs.Logs.{log_of}
use Rattle.nova_log.specs.declared.volume.entry.Entry.{Entry}
use Rattle.image_check.specs.Legal.{with_entries}
use Rattle.store_trace.specs.Marks.{ended, is_open, pending}
use Rattle.image_check.specs.OrderFaults.{ShareInode}
use Rattle.image_check.specs.Planned.{planned}
use Rattle.image_check.specs.declared.legal.UnderWay.{UnderWay}

-- a volume of so many inodes has the inode of each entry
abbrev pub are_within : ℕ → List PlannedEntry → Bool
are_within inodes es = list_all (λ e. nat_lt e.inode inodes) es

-- the log of the first entry's inode is longer than it was
abbrev pub is_longer : List (List Entry) → List (List Entry) → List PlannedEntry → Bool
is_longer before after [] = false
is_longer before after (e ∷ es) = nat_lt (length (log_of before e.inode)) (length (log_of after e.inode))

-- the volume before has an inode for each of these entries, and there is something new in the first one's log
abbrev pub is_shown : List (List Entry) → List (List Entry) → List PlannedEntry → Bool
is_shown before after es = are_within (length before) es && is_longer before after es

-- two pending operations don't share an inode
abbrev pub AreApart : List Operation → List Event → Type 0
AreApart plan events = (one other : ℕ) → Contains (pending events) one → Contains (pending events) other →
    ¬ (one ≡ other) → ¬ ShareInode plan one other

-- an operation, and the hart that began it
abbrev pub begun_on : ℕ → ℕ → UnderWay
begun_on hart op = record { op = op; hart = hart }

-- the operation that begins in this event, with its hart
abbrev pub beginning : Event → Option UnderWay
beginning (Store hart line offset width value) = None
beginning (Clean hart line) = None
beginning (Fence hart) = None
beginning (Begin hart op) = Some (begun_on hart op)
beginning (End hart op) = None

-- the pending operations with their harts, in the order of their Begins
abbrev pub pending_harts : List Event → List UnderWay
pending_harts events = filter (λ u. is_open events u.op) (filter_map beginning events)

-- in the order of their numbers, each once
abbrev pub AreInOrder : List UnderWay → Type 0
AreInOrder under_way = AllPairs (λ u v. u.op < v.op) under_way

-- how often the operation stands there as one that this hart began
abbrev pub times : ℕ → ℕ → List UnderWay → ℕ
times hart op under_way = count_by (λ u. u.hart == hart && u.op == op) under_way

-- the starting volume with the entries of the ended operations, and the pending operations with their harts, in any order
pub record AreOutcomes (plan : List Operation) (start : Option (List (List Entry))) (events : List Event)
    (settled : Option (List (List Entry))) (under_way : List UnderWay) : Type 0 where
  pub settled_is : settled ≡ option_and_then (λ before. with_entries before (flat_map (planned plan) (ended events))) start
  pub under_way_is : (hart op : ℕ) → times hart op under_way ≡ times hart op (pending_harts events)
