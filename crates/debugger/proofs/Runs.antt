-- Runs that commands make.
use Rattle.std.proofs.Common.{◌≡◌, ℕ, List, [], ◌++◌, Option, Some, None, Ok, Err, ap}
use Rattle.machine.specs.declared.schedule.items.Item.{Item}
use Rattle.machine.specs.declared.schedule.items.Step.{Step}
use Rattle.machine.specs.Represents.{MachineView, Runs}
use Rattle.machine.proofs.Steps.{runs_more, runs_none}
use Rattle.debugger.specs.Going.{GoesTo, IsStoppedBy}
use Rattle.debugger.specs.Points.{DebuggerView}
use Rattle.debugger.specs.declared.fault.DebugFault.{DebugFault}
use Rattle.debugger.specs.declared.fault.DebugFault.TheVariants as faults
use Rattle.machine.specs.declared.schedule.place.Place.{Place}
use Rattle.debugger.specs.declared.stop.Stop.{Stop}
use Rattle.debugger.specs.CommandEffects.{Breaks, Clears, Does, Goes, GoesOnBy, MakesStep, Outcome, SessionState, Watches, at_start}
use Rattle.debugger.specs.Running.{SomeRun}
use Rattle.debugger.specs.declared.sessions.effects.Answer.TheVariants as answers
use Rattle.debugger.specs.declared.sessions.effects.Progress.{Progress}
use Rattle.debugger.specs.declared.sessions.command.Command.{Command}
use Rattle.debugger.specs.declared.sessions.command.Command.TheVariants as commands

pub no_run : (old new : MachineView) → new ≡ old → SomeRun old new
no_run old new e = rw e (record { steps = []; runs = runs_none old })

pub one_run : (old new : MachineView) (steps : List Step) → Runs old new steps → SomeRun old new
one_run old new steps runs = record { steps = steps; runs = runs }

pub run_joined : (old middle new : MachineView) → SomeRun old middle → SomeRun middle new → SomeRun old new
run_joined old middle new a b = record {
  steps = a.steps ++ b.steps;
  runs = runs_more old middle new a.steps b.steps a.runs b.runs;
}

pub gone_run : (old new : DebuggerView) (items : List Item) (from : Place) (stop : Stop) → GoesTo old new items from stop
    → SomeRun old.machine new.machine
gone_run old new items from stop g = one_run old.machine new.machine _ g.runs

pub stopped_run : (old new : DebuggerView) (items : List Item) (from : Place) (fault : DebugFault) → IsStoppedBy old new items from fault
    → SomeRun old.machine new.machine
stopped_run old new items from (faults.Stopped place fault) s = one_run old.machine new.machine _ s.runs
stopped_run old new items from (faults.Step fault) s = absurd s
stopped_run old new items from faults.Command s = absurd s
stopped_run old new items from faults.Address s = absurd s
stopped_run old new items from faults.PointsFull s = absurd s
stopped_run old new items from faults.Memory s = absurd s
stopped_run old new items from faults.InputOutput s = absurd s

stepped_run : (old new : DebuggerView) (hart : ℕ) (outcome : Outcome) → MakesStep old new hart outcome → SomeRun old.machine new.machine
stepped_run old new hart (Ok (answers.Hart number before after)) s = one_run old.machine new.machine _ s.4
stepped_run old new hart (Ok answer) s = absurd s
stepped_run old new hart (Err fault) s = no_run old.machine new.machine (ap (λ (d : DebuggerView). d.machine) s.1)

went_run : (old new : DebuggerView) (items : List Item) (from reached : Place) (outcome : Outcome) → Goes old new items from reached outcome
    → SomeRun old.machine new.machine
went_run old new items from reached (Ok (answers.Stop cause)) s = gone_run old new items from _ s
went_run old new items from reached (Ok answer) s = absurd s
went_run old new items from reached (Err (faults.Stopped place fault)) s = stopped_run old new items from (faults.Stopped place fault) s.0
went_run old new items from reached (Err fault) s = absurd s

same_machine : (old new : SessionState) → new ≡ old → SomeRun old.debugger.machine new.debugger.machine
same_machine old new e = no_run old.debugger.machine new.debugger.machine (ap (λ (s : SessionState). s.debugger.machine) e)

broken_run : (old new : DebuggerView) (address : ℕ) (outcome : Outcome) → Breaks old new address outcome → SomeRun old.machine new.machine
broken_run old new address (Ok answers.Done) s = no_run old.machine new.machine (ap (λ (d : DebuggerView). d.machine) s.2)
broken_run old new address (Ok answer) s = absurd s
broken_run old new address (Err faults.Address) s = no_run old.machine new.machine (ap (λ (d : DebuggerView). d.machine) s.1)
broken_run old new address (Err faults.PointsFull) s = no_run old.machine new.machine (ap (λ (d : DebuggerView). d.machine) s.2)
broken_run old new address (Err fault) s = absurd s

watched_run : (old new : DebuggerView) (address : ℕ) (outcome : Outcome) → Watches old new address outcome → SomeRun old.machine new.machine
watched_run old new address (Ok answers.Done) s = no_run old.machine new.machine (ap (λ (d : DebuggerView). d.machine) s.2)
watched_run old new address (Ok answer) s = absurd s
watched_run old new address (Err faults.Address) s = no_run old.machine new.machine (ap (λ (d : DebuggerView). d.machine) s.1)
watched_run old new address (Err faults.PointsFull) s = no_run old.machine new.machine (ap (λ (d : DebuggerView). d.machine) s.2)
watched_run old new address (Err fault) s = absurd s

cleared_run : (old new : DebuggerView) (address : ℕ) (outcome : Outcome) → Clears old new address outcome → SomeRun old.machine new.machine
cleared_run old new address (Ok answers.Done) s = no_run old.machine new.machine (ap (λ (d : DebuggerView). d.machine) s.1)
cleared_run old new address (Ok answer) s = absurd s
cleared_run old new address (Err faults.Address) s = no_run old.machine new.machine (ap (λ (d : DebuggerView). d.machine) s.1)
cleared_run old new address (Err fault) s = absurd s

went_on_run : (old new : SessionState) (last : Option Progress) (outcome : Outcome) → GoesOnBy old new last outcome
    → SomeRun old.debugger.machine new.debugger.machine
went_on_run old new None outcome s = same_machine old new s.1
went_on_run old new (Some from) outcome s = went_run old.debugger new.debugger from.schedule from.place s.0 outcome s.2

-- a command brings the machine to another by steps of a schedule, or leaves it
pub command_run : (old new : SessionState) (command : Command) (outcome : Outcome) → Does old new command outcome
    → SomeRun old.debugger.machine new.debugger.machine
command_run old new (commands.Break address) outcome s = broken_run old.debugger new.debugger address outcome s.0
command_run old new (commands.Watch address) outcome s = watched_run old.debugger new.debugger address outcome s.0
command_run old new (commands.Clear address) outcome s = cleared_run old.debugger new.debugger address outcome s.0
command_run old new (commands.Step hart) outcome s = stepped_run old.debugger new.debugger hart outcome s.0
command_run old new (commands.Go items) outcome s = went_on_run old new (Some (at_start items)) outcome s
command_run old new commands.GoOn outcome s = went_on_run old new old.kept.last outcome s
command_run old new (commands.Registers hart) outcome s = same_machine old new s.1
command_run old new (commands.Where hart) outcome s = same_machine old new s.1
command_run old new (commands.Peek address count) outcome s = same_machine old new s.1
command_run old new commands.Lines outcome s = same_machine old new s.1
command_run old new (commands.Verbose on) outcome s =
    no_run old.debugger.machine new.debugger.machine (ap (λ (t : SessionState). t.debugger.machine) s.1)
command_run old new commands.Help outcome s = same_machine old new s.1
command_run old new commands.Quit outcome s = same_machine old new s.1
