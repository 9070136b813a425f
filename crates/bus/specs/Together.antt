-- What harts that run together have done.
use Rattle.std.specs.Prelude.{◌≡◌, ◌⊎◌, ◌<◌, ◌≤◌, ℕ, Bool, true, List, [], ◌∷◌, Some, eqb, if◌then◌else◌, suc, IsPermutation, length, map, slice_get}
use Rattle.hart.specs.declared.state.HartState.{HartState}
use Rattle.hart.specs.declared.state.Status.TheVariants.{Running}
use Rattle.machine.specs.Left.{IsLeftBy}
use Rattle.machine.specs.Represents.{IsRunning}
use Rattle.machine.specs.Run.{Config, RunsTo, started}
use Rattle.machine.specs.Recorded.{RecordedView, Records}
use Rattle.machine.specs.Steps.{all_steps}
use Rattle.machine.specs.Replies.{trace_in}
use Rattle.machine.specs.declared.shared_memory.fault.StepFault.{StepFault}
use Rattle.machine.specs.declared.shared_memory.fault.StepFault.TheVariants as step_faults
use Rattle.machine.specs.declared.schedule.items.Step.{Step}
use Rattle.machine.specs.declared.schedule.items.Step.TheVariants.{Hart, Evict}
use Rattle.bus.specs.declared.finish_fault.FinishFault.{FinishFault}
use Rattle.bus.specs.declared.finish_fault.FinishFault.TheVariants.{SeatMissing, SeatNumber, Foreign, Memory}
use Rattle.bus.specs.declared.together.RunFault.{RunFault}
use Rattle.bus.specs.declared.together.RunFault.TheVariants as run_faults
use Rattle.bus.specs.Ending.{HasTooLarge, HasTwice, LacksSeat}
use Rattle.bus.specs.Seats.{SeatView}
use Rattle.bus.specs.Stepping.{BusView}

-- how many of the steps are hart h's
unfoldable pub count_of : ℕ → List Step → ℕ
count_of h [] = 0
count_of h (Hart g ∷ steps) = if eqb g h then suc (count_of h steps) else count_of h steps
count_of h (Evict line ∷ steps) = count_of h steps

-- what is recorded is one run from the start of the bus. It ends in the states of the seats, each of which is a hart's by its
-- number, and as many of its steps are that hart's as the seat has made, which are no more than its budget
pub record IsFinished (bus : BusView) (seats : List SeatView) (recorded : RecordedView) : Type 0 where
  pub by_number : List SeatView
  pub same : IsPermutation seats by_number
  pub count : length by_number ≡ bus.harts
  pub numbered : (h : ℕ) (seat : SeatView) → slice_get by_number h ≡ Some seat → seat.hart ≡ h
  pub start : recorded.start ≡ bus.start
  pub capacity : recorded.capacity ≡ bus.capacity
  pub harts : recorded.harts ≡ map (λ (seat : SeatView). seat.state) by_number
  pub made : (h : ℕ) (seat : SeatView) → slice_get by_number h ≡ Some seat → count_of h (all_steps recorded.items) ≡ seat.made
  pub within : (h : ℕ) (seat : SeatView) → slice_get by_number h ≡ Some seat → seat.made ≤ seat.budget
  pub records : Records (started bus.program bus.start bus.harts) recorded
  pub left_is : IsLeftBy (started bus.program bus.start bus.harts) (all_steps recorded.items) recorded.capacity recorded.left

-- of the steps as many are hart h's as the seat of its number may make
pub record IsAtBudget (seats : List SeatView) (steps : List Step) (h : ℕ) : Type 0 where
  pub at : ℕ
  pub seat : SeatView
  pub there : slice_get seats at ≡ Some seat
  pub number : seat.hart ≡ h
  pub spent : count_of h steps ≡ seat.budget

-- of the steps no more are hart h's than the seat of its number may make
pub record IsWithinBudget (seats : List SeatView) (steps : List Step) (h : ℕ) : Type 0 where
  pub at : ℕ
  pub seat : SeatView
  pub there : slice_get seats at ≡ Some seat
  pub number : seat.hart ≡ h
  pub within : count_of h steps ≤ seat.budget

-- what is recorded is one run from the start of the bus, at whose end each hart has made no more steps than its seat may, and
-- has stopped or has made as many
pub record HaveRun (bus : BusView) (seats : List SeatView) (recorded : RecordedView) : Type 0 where
  pub start : recorded.start ≡ bus.start
  pub capacity : recorded.capacity ≡ bus.capacity
  pub records : Records (started bus.program bus.start bus.harts) recorded
  pub left_is : IsLeftBy (started bus.program bus.start bus.harts) (all_steps recorded.items) recorded.capacity recorded.left
  pub within : (h : ℕ) (s : HartState) → slice_get recorded.harts h ≡ Some s → IsWithinBudget seats (all_steps recorded.items) h
  pub ended : (h : ℕ) (s : HartState) → slice_get recorded.harts h ≡ Some s → s.status ≡ Running
      → IsAtBudget seats (all_steps recorded.items) h

-- why seats of a bus aren't gathered, as far as it can be said of what lies behind the lock
abbrev pub RefusesFinish : ℕ → List SeatView → FinishFault → Type 0
RefusesFinish harts seats SeatMissing = LacksSeat harts seats
RefusesFinish harts seats SeatNumber = HasTwice seats ⊎ HasTooLarge harts seats
RefusesFinish harts seats Foreign = Unit {0}
RefusesFinish harts seats Memory = Unit {0}

-- the seat's hart runs, and has made fewer steps than it may
pub record IsLeft (seat : SeatView) : Type 0 where
  pub running : seat.state.status ≡ Running
  pub left : seat.made < seat.budget

-- a seat is such
pub record HasLeft (seats : List SeatView) : Type 0 where
  pub at : ℕ
  pub seat : SeatView
  pub there : slice_get seats at ≡ Some seat
  pub is_left : IsLeft seat

-- a hart runs at the end of the steps, fewer of which are its own than the seat of its number may make
pub record GoesOn (seats : List SeatView) (steps : List Step) (end : Config) : Type 0 where
  pub at : ℕ
  pub seat : SeatView
  pub there : slice_get seats at ≡ Some seat
  pub running : IsRunning (slice_get end.harts seat.hart)
  pub left : count_of seat.hart steps < seat.budget

-- the harts of the bus make a run from its start that has as many events as a trace may have, in which each makes no more steps
-- than its seat may; and one of them would go on
pub record FillsTrace (bus : BusView) (seats : List SeatView) : Type 0 where
  pub steps : List Step
  pub end : Config
  pub run : RunsTo (started bus.program bus.start bus.harts) steps end
  pub full : length (trace_in end.common) ≡ 65536
  pub within : (h : ℕ) → h < bus.harts → IsWithinBudget seats steps h
  pub goes_on : GoesOn seats steps end

-- a full trace is reported where both hold, and else a core that isn't this bus's
abbrev pub IsFullOr : Bool → Bool → RunFault → Type 0
IsFullOr left full fault = ((left ≡ true) × (full ≡ true) × (fault ≡ run_faults.Step step_faults.TraceFull)) ⊎ (fault ≡ run_faults.Finish Foreign)

-- why harts are stopped before their end: a seat is that of no hart of the bus; or they fill the trace; or a growth or a thread is
-- refused, which it may always be
abbrev pub StopsHarts : BusView → List SeatView → StepFault → Type 0
StopsHarts bus seats step_faults.NoSuchHart = HasTooLarge bus.harts seats
StopsHarts bus seats step_faults.TraceFull = FillsTrace bus seats
StopsHarts bus seats step_faults.Memory = Unit {0}
StopsHarts bus seats step_faults.NoSuchLine = ⊥
StopsHarts bus seats step_faults.OutOfLimits = ⊥

-- why harts haven't run together to their end: they are stopped, or their seats aren't gathered
abbrev pub RefusesRun : BusView → List SeatView → RunFault → Type 0
RefusesRun bus seats (run_faults.Step fault) = StopsHarts bus seats fault
RefusesRun bus seats (run_faults.Finish fault) = RefusesFinish bus.harts seats fault
