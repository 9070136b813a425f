-- What a step answers, and which steps make an event.
use Rattle.std.specs.Prelude.{◌≡◌, ℕ, List, Option, Some, length, slice_get}
use Rattle.hart.specs.declared.state.HartState.{HartState}
use Rattle.hart.specs.declared.state.Status.{Status}
use Rattle.hart.specs.declared.state.Status.TheVariants as statuses
use Rattle.hart.specs.declared.need.Need.TheVariants.{Ask}
use Rattle.hart.specs.declared.need.Request.{Request}
use Rattle.machine.specs.declared.machine.Outcome.{Outcome}
use Rattle.machine.specs.declared.machine.Outcome.TheVariants.{Done, Exited, Trapped, Stopped}
use Rattle.machine.specs.declared.schedule.items.Step.{Step}
use Rattle.machine.specs.declared.schedule.items.Step.TheVariants.{Hart, Evict}
use Rattle.machine.specs.Replies.{events_of}
use Rattle.machine.specs.Represents.{IsRunning, MachineView, NeedsAt}
use Rattle.machine.specs.SharedView.{reply_to}

-- by a hart's status after a step that it made
abbrev pub outcome_of : Status → Outcome
outcome_of statuses.Running = Done
outcome_of (statuses.Exited code) = Exited code
outcome_of (statuses.Trapped trap) = Trapped trap

-- by a hart's status before and after: a hart that had stopped made no step
abbrev pub outcome_between : Status → Status → Outcome
outcome_between statuses.Running after = outcome_of after
outcome_between (statuses.Exited code) after = Stopped
outcome_between (statuses.Trapped trap) after = Stopped

abbrev pub hart_outcome : Option HartState → Option HartState → Outcome
hart_outcome (Some before) (Some after) = outcome_between before.status after.status
hart_outcome before after = Stopped

-- what the step of a schedule answers
abbrev pub outcome_after : List HartState → List HartState → Step → Outcome
outcome_after old new (Hart h) = hart_outcome (slice_get old h) (slice_get new h)
outcome_after old new (Evict line) = Done

-- hart h runs, and its next instruction asks for what is answered with an event
pub record HartMakesEvent (machine : MachineView) (h : ℕ) : Type 0 where
  pub request : Request
  pub running : IsRunning (slice_get machine.harts h)
  pub asks : NeedsAt machine h (slice_get machine.harts h) (Ask request)
  pub event : length (events_of h request (reply_to machine.shared h request)) ≡ 1

-- the step would make an event
abbrev pub MakesEvent : MachineView → Step → Type 0
MakesEvent machine (Hart h) = HartMakesEvent machine h
MakesEvent machine (Evict line) = ⊥
