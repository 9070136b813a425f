-- What a command does to a debugger and to the last schedule, and how it comes out.
use Rattle.std.specs.Prelude.{◌≡◌, ◌<◌, ◌≤◌, ◌+◌, ◌^◌, ◌∷◌, ℕ, List, [], Bool, true, false, Option, Some, None, Result, Ok, Err, IsSome, if◌then◌else◌, length, nat_lt, slice_get}
use Rattle.std.specs.List.{list_any}
use Rattle.hart.specs.declared.state.HartState.{HartState}
use Rattle.machine.specs.Represents.{MachineView, Runs}
use Rattle.machine.specs.declared.schedule.items.Item.{Item}
use Rattle.machine.specs.declared.schedule.items.Step.TheVariants as steps
use Rattle.machine.specs.SharedView.{memory_of}
use Rattle.machine.specs.declared.shared_memory.fault.StepFault.TheVariants as refusals
use Rattle.debugger.specs.Going.{GoesTo, IsStoppedBy, RefusesStep}
use Rattle.debugger.specs.Points.{DebuggerView, can_break, has_break, has_watch, is_meant, line_start, with_break, with_watch, without}
use Rattle.debugger.specs.declared.fault.DebugFault.{DebugFault}
use Rattle.debugger.specs.declared.fault.DebugFault.TheVariants as faults
use Rattle.debugger.specs.declared.points.Point.{Point}
use Rattle.machine.specs.declared.schedule.place.Place.{Place}
use Rattle.debugger.specs.declared.sessions.effects.Answer.{Answer}
use Rattle.debugger.specs.declared.sessions.effects.Answer.TheVariants as answers
use Rattle.debugger.specs.declared.sessions.effects.Kept.{Kept}
use Rattle.debugger.specs.declared.sessions.effects.Progress.{Progress}
use Rattle.debugger.specs.declared.sessions.command.Command.{Command}
use Rattle.debugger.specs.declared.sessions.command.Command.TheVariants as commands

-- what a session holds between two lines: the debugger, the last schedule with its place, and whether it says more
pub record SessionState : Type 0 where
  pub debugger : DebuggerView
  pub kept : Kept

abbrev pub Outcome : Type 0
Outcome = Result Answer DebugFault

-- a point that isn't set finds no place
abbrev pub FindsNoPlace : List Point → Bool → Type 0
FindsNoPlace points is_set = (is_set ≡ false) × (length points ≡ 64)

-- `break A`: D2 goes before D3
abbrev pub Breaks : DebuggerView → DebuggerView → ℕ → Outcome → Type 0
Breaks old new address (Ok answers.Done) = (can_break address ≡ true)
    × (¬ (FindsNoPlace old.points (has_break old.points address))) × (new ≡ record old { points = with_break old.points address })
Breaks old new address (Err faults.Address) = (can_break address ≡ false) × (new ≡ old)
Breaks old new address (Err faults.PointsFull) = (can_break address ≡ true)
    × FindsNoPlace old.points (has_break old.points address) × (new ≡ old)
Breaks old new address outcome = ⊥

-- `watch A`, which stands for the line of the address
abbrev pub Watches : DebuggerView → DebuggerView → ℕ → Outcome → Type 0
Watches old new address (Ok answers.Done) = IsSome (memory_of old.machine.shared address)
    × (¬ (FindsNoPlace old.points (has_watch old.points (line_start address))))
    × (new ≡ record old { points = with_watch old.points (line_start address) })
Watches old new address (Err faults.Address) = (memory_of old.machine.shared address ≡ None) × (new ≡ old)
Watches old new address (Err faults.PointsFull) = IsSome (memory_of old.machine.shared address)
    × FindsNoPlace old.points (has_watch old.points (line_start address)) × (new ≡ old)
Watches old new address outcome = ⊥

-- `clear A`: the breakpoint at the address and the watch on its line, one of them at least
abbrev pub Clears : DebuggerView → DebuggerView → ℕ → Outcome → Type 0
Clears old new address (Ok answers.Done) = (list_any (is_meant address) old.points ≡ true)
    × (new ≡ record old { points = without old.points address })
Clears old new address (Err faults.Address) = (list_any (is_meant address) old.points ≡ false) × (new ≡ old)
Clears old new address outcome = ⊥

-- `step H`: one step of the hart, whatever points are set
abbrev pub MakesStep : DebuggerView → DebuggerView → ℕ → Outcome → Type 0
MakesStep old new hart (Ok (answers.Hart number before after)) = (number ≡ hart)
    × (slice_get old.machine.harts hart ≡ Some before) × (slice_get new.machine.harts hart ≡ Some after)
    × (new.points ≡ old.points) × Runs old.machine new.machine (steps.Hart hart ∷ [])
MakesStep old new hart (Ok answer) = ⊥
MakesStep old new hart (Err fault) = RefusesStep old.machine (steps.Hart hart) fault × (new ≡ old)

-- `go`: the place that is reached is behind the last step, or that of a step which was refused
abbrev pub Goes : DebuggerView → DebuggerView → List Item → Place → Place → Outcome → Type 0
Goes old new items from reached (Ok (answers.Stop cause)) = GoesTo old new items from (record { cause = cause; place = reached })
Goes old new items from reached (Ok answer) = ⊥
Goes old new items from reached (Err (faults.Stopped place fault)) =
    IsStoppedBy old new items from (faults.Stopped place fault) × (reached ≡ place)
Goes old new items from reached (Err fault) = ⊥

-- a schedule stays the last one, and keeps the place that is reached
abbrev pub GoesOnFrom : SessionState → SessionState → Progress → Outcome → Type 0
GoesOnFrom old new from outcome =
    (reached : Place) × (new.kept ≡ record old.kept { last = Some (record from { place = reached }) }) × Goes old.debugger new.debugger from.schedule from.place reached outcome

-- without a schedule there is nothing to go on by
abbrev pub GoesOnBy : SessionState → SessionState → Option Progress → Outcome → Type 0
GoesOnBy old new None outcome = (outcome ≡ Err faults.Command) × (new ≡ old)
GoesOnBy old new (Some progress) outcome = GoesOnFrom old new progress outcome

-- a schedule at its start
abbrev pub at_start : List Item → Progress
at_start items = record { schedule = items; place = record { item = 0; steps = 0 } }

-- `regs H`
abbrev pub ShowsHart : MachineView → ℕ → Outcome → Type 0
ShowsHart machine hart (Ok (answers.Registers state)) = slice_get machine.harts hart ≡ Some state
ShowsHart machine hart (Err (faults.Step refusals.NoSuchHart)) = length machine.harts ≤ hart
ShowsHart machine hart outcome = ⊥

-- `where H`
abbrev pub ShowsPlace : MachineView → ℕ → Outcome → Type 0
ShowsPlace machine hart (Ok (answers.Where number pc)) =
    (number ≡ hart) × ((state : HartState) × (slice_get machine.harts hart ≡ Some state) × (pc ≡ state.pc))
ShowsPlace machine hart (Err (faults.Step refusals.NoSuchHart)) = length machine.harts ≤ hart
ShowsPlace machine hart outcome = ⊥

-- the byte at an address; one past 64 bits is the address of no byte
abbrev pub byte_at : MachineView → ℕ → Option ℕ
byte_at machine address = if nat_lt address (2 ^ 64) then memory_of machine.shared address else None

-- `peek A N`: each of the bytes lies in a region
abbrev pub ShowsBytes : MachineView → ℕ → ℕ → Outcome → Type 0
ShowsBytes machine address count (Ok (answers.Bytes from number)) = (from ≡ address) × (number ≡ count)
    × ((place : ℕ) → place < count → IsSome (byte_at machine (address + place)))
ShowsBytes machine address count (Err faults.Address) =
    (place : ℕ) × (place < count) × (byte_at machine (address + place) ≡ None)
ShowsBytes machine address count outcome = ⊥

-- what a command does; but for `go`, the last schedule stays with its place, and but for `verbose` how much is said
abbrev pub Does : SessionState → SessionState → Command → Outcome → Type 0
Does old new (commands.Break address) outcome = Breaks old.debugger new.debugger address outcome × (new.kept ≡ old.kept)
Does old new (commands.Watch address) outcome = Watches old.debugger new.debugger address outcome × (new.kept ≡ old.kept)
Does old new (commands.Clear address) outcome = Clears old.debugger new.debugger address outcome × (new.kept ≡ old.kept)
Does old new (commands.Step hart) outcome = MakesStep old.debugger new.debugger hart outcome × (new.kept ≡ old.kept)
Does old new (commands.Go items) outcome = GoesOnFrom old new (at_start items) outcome
Does old new commands.GoOn outcome = GoesOnBy old new old.kept.last outcome
Does old new (commands.Registers hart) outcome = ShowsHart old.debugger.machine hart outcome × (new ≡ old)
Does old new (commands.Where hart) outcome = ShowsPlace old.debugger.machine hart outcome × (new ≡ old)
Does old new (commands.Peek address count) outcome = ShowsBytes old.debugger.machine address count outcome × (new ≡ old)
Does old new commands.Lines outcome = (outcome ≡ Ok answers.Lines) × (new ≡ old)
Does old new (commands.Verbose on) outcome = (outcome ≡ Ok answers.Done) × (new ≡ record old { kept = record old.kept { verbose = on } })
Does old new commands.Help outcome = (outcome ≡ Ok answers.Help) × (new ≡ old)
Does old new commands.Quit outcome = (outcome ≡ Ok answers.Quit) × (new ≡ old)
