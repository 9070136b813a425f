-- What a seat's step does, with the lock or without, and what can be said of it past the lock.
use Rattle.std.specs.Prelude.{◌≡◌, ◌⊎◌, ℕ, List}
use Rattle.hart.specs.declared.need.Request.{Request}
use Rattle.hart.specs.declared.need.Reply.{Reply}
use Rattle.isa_table.specs.declared.instruction.Instr.{Instr}
use Rattle.program.specs.Sections.{Sections}
use Rattle.machine.specs.declared.shared_memory.fault.StepFault.{StepFault}
use Rattle.machine.specs.declared.shared_memory.fault.StepFault.TheVariants.{NoSuchHart, TraceFull, Memory}
use Rattle.bus.specs.declared.outcome.Outcome.{Outcome}
use Rattle.bus.specs.Seating.{IsLocalStep}
use Rattle.bus.specs.Seats.{SeatView, outcome_of}
use Rattle.bus.specs.Serving.{IsTold}

-- what a contract sees of a bus, whose core lies behind the lock: the program, the lines of the medium at the start, how
-- many harts there are, and how many lines the cache has room for
pub record BusView : Type 0 where
  pub program : Sections
  pub start : List (List ℕ)
  pub harts : ℕ
  pub capacity : ℕ

-- the request that the seat's next step asks, with one reply
pub record IsAnswered (old new : SeatView) (outcome : Outcome) : Type 0 where
  pub instr : Instr
  pub request : Request
  pub reply : Reply
  pub text : List ℕ
  pub told : IsTold old new instr request reply text
  pub answer : outcome ≡ outcome_of new.state.status

-- a step without a request, or one with a request and one reply to it
abbrev pub IsStepOf : SeatView → SeatView → Outcome → Type 0
IsStepOf old new outcome = IsLocalStep old new outcome ⊎ IsAnswered old new outcome

-- a step is refused for its hart, for its event, or for want of memory
abbrev pub IsStepRefusal : StepFault → Type 0
IsStepRefusal fault = (fault ≡ NoSuchHart) ⊎ ((fault ≡ TraceFull) ⊎ (fault ≡ Memory))
