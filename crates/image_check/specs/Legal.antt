-- The volumes that recovery may show after some events: the ended operations are in them, and any of the pending ones,
-- each wholly or not at all.
-- Source: NOVA, FAST 2016: an operation on a log commits at once; Vinter, USENIX ATC 2022: it is there or not after a crash.
use Rattle.std.specs.Prelude.{◌≡◌, ℕ, Bool, List, [], ◌∷◌, ◌++◌, length, filter, nat_lt, if◌then◌else◌, Option, Some, None, option_and_then, slice_set, Result, Ok}
use Rattle.std.specs.List.{flat_map}
use Rattle.nova_log.specs.declared.fault.VolumeFault.{VolumeFault}
use Rattle.plan.specs.declared.operation.Operation.{Operation}
use Rattle.plan.specs.declared.operation.PlannedEntry.{PlannedEntry}
use Rattle.store_trace.specs.declared.event.Event.{Event}
use Rattle.nova_log.specs.Logs.{log_of}
use Rattle.nova_log.specs.declared.volume.entry.Entry.{Entry}
use Rattle.store_trace.specs.Marks.{ended, pending}
use Rattle.image_check.specs.Planned.{planned}

-- the volume with an entry at the end of its inode's log; none where it lacks the inode
abbrev pub with_entry : List (List Entry) → PlannedEntry → Option (List (List Entry))
with_entry volume e =
    if nat_lt e.inode (length volume) then Some (slice_set volume e.inode (log_of volume e.inode ++ e.entry ∷ [])) else None

-- the volume with these entries, each at the end of its inode's log; none where it lacks one of the inodes
abbrev pub with_entries : List (List Entry) → List PlannedEntry → Option (List (List Entry))
with_entries volume [] = Some volume
with_entries volume (e ∷ es) = option_and_then (λ next. with_entries next es) (with_entry volume e)

-- The volume is, for some set of the pending operations, the starting one with the planned entries of the ended operations
-- in the order of their Ends and then those of the set.
pub record IsLegal (plan : List Operation) (start : Result (List (List Entry)) VolumeFault) (events : List Event) (volume : List (List Entry)) : Type 0 where
  pub before : List (List Entry)
  pub started : start ≡ Ok before
  pub chosen : ℕ → Bool
  pub grown : with_entries before (flat_map (planned plan) (ended events ++ filter chosen (pending events))) ≡ Some volume
