-- Why a request is refused. A trace holds at most 65,536 events.
use Rattle.std.specs.Prelude.{◌≡◌, ℕ, ◌<◌, ◌≤◌, List, length}
use Rattle.store_trace.specs.declared.event.Event.{Event}
use Rattle.line_memory.specs.declared.TheConstants.{PERSISTENT_BASE}
use Rattle.hart.specs.declared.need.Request.{Request}
use Rattle.machine.specs.declared.shared_memory.fault.StepFault.{StepFault}
use Rattle.machine.specs.declared.shared_memory.fault.StepFault.TheVariants.{NoSuchHart, NoSuchLine, TraceFull, Memory, OutOfLimits}
use Rattle.machine.specs.Replies.{events_of}
use Rattle.machine.specs.SharedView.{SharedView, reply_to}

-- why a trace doesn't take one more event: it is full, or else memory was refused
abbrev pub IsEventFault : List Event → StepFault → Type 0
IsEventFault trace TraceFull = length trace ≡ 65536
IsEventFault trace Memory = length trace < 65536
IsEventFault trace NoSuchHart = ⊥
IsEventFault trace NoSuchLine = ⊥
IsEventFault trace OutOfLimits = ⊥

-- a request of hart h is refused only for the event that it would make
pub record RefusesRequest (shared : SharedView) (h : ℕ) (request : Request) (fault : StepFault) : Type 0 where
  pub event : length (events_of h request (reply_to shared h request)) ≡ 1
  pub reason : IsEventFault shared.trace fault

-- why a write to an address is refused: its event isn't taken
pub record RefusesWrite (shared : SharedView) (address : ℕ) (fault : StepFault) : Type 0 where
  pub persistent : PERSISTENT_BASE ≤ address
  pub reason : IsEventFault shared.trace fault
