-- Why a service is refused.
use Rattle.std.proofs.Common.{◌≡◌, ◌⊎◌, ◌<◌, ◌≤◌, ℕ, length, inl, inr, refl}
use Rattle.hart.specs.declared.need.Request.{Request}
use Rattle.machine.specs.Represents.{text_bytes}
use Rattle.machine.specs.Limits.{AreOutsideLimits}
use Rattle.machine.specs.SharedMemoryRefusals.{RefusesRequest}
use Rattle.machine.specs.declared.shared_memory.fault.StepFault.{StepFault}
use Rattle.machine.specs.declared.shared_memory.fault.StepFault.TheVariants.{NoSuchHart, NoSuchLine, TraceFull, Memory, OutOfLimits}
use Rattle.bus.specs.Alone.{Asks}
use Rattle.bus.specs.Limits.{AreWithin, RefusesStart}
use Rattle.bus.specs.Refusals.{RefusesLine, RefusesSeat, RefusesTelling}
use Rattle.bus.specs.Replays.{CoreView}
use Rattle.bus.specs.Seats.{SeatView}
use Rattle.bus.specs.Stepping.{IsStepRefusal}

pub refuses_telling : (core : CoreView) (h : ℕ) (request : Request) (fault : StepFault) → RefusesRequest core.shared h request fault
    → RefusesTelling core h request fault
refuses_telling core h request TraceFull refused = record { event = refused.event; full = refused.reason }
refuses_telling core h request Memory refused = tt
refuses_telling core h request NoSuchHart refused = refused.reason
refuses_telling core h request NoSuchLine refused = refused.reason
refuses_telling core h request OutOfLimits refused = refused.reason

pub refuses_seat : (core : CoreView) (seat : SeatView) (request : Request) (fault : StepFault) → seat.hart < core.harts
    → Asks (text_bytes seat.copy) seat.state request → RefusesTelling core seat.hart request fault → RefusesSeat core seat fault
refuses_seat core seat request TraceFull there asks refused = (there, record { request = request; asks = asks; room = refused })
refuses_seat core seat request Memory there asks refused = there
refuses_seat core seat request NoSuchHart there asks refused = absurd refused
refuses_seat core seat request NoSuchLine there asks refused = absurd refused
refuses_seat core seat request OutOfLimits there asks refused = absurd refused

-- a number outside its limits is told so
pub outside_cause : (harts capacity : ℕ) (fault : StepFault) → AreOutsideLimits harts capacity fault
    → (fault ≡ NoSuchHart) ⊎ (fault ≡ OutOfLimits)
outside_cause harts capacity NoSuchHart outside = inl refl
outside_cause harts capacity OutOfLimits outside = inr refl
outside_cause harts capacity NoSuchLine outside = absurd outside
outside_cause harts capacity TraceFull outside = absurd outside
outside_cause harts capacity Memory outside = absurd outside

-- for want of memory
pub start_for_memory : (harts capacity budget : ℕ) (fault : StepFault) → AreWithin harts capacity budget → fault ≡ Memory
    → RefusesStart harts capacity budget fault
start_for_memory harts capacity budget fault within e = inr (inr (within, e))

pub telling_for_memory : (core : CoreView) (h : ℕ) (request : Request) (fault : StepFault) → fault ≡ Memory → RefusesTelling core h request fault
telling_for_memory core h request fault e = rw e tt

pub line_for_memory : (core : CoreView) (line : ℕ) (fault : StepFault) → fault ≡ Memory → RefusesLine core line fault
line_for_memory core line fault e = rw e tt

pub seat_for_memory : (core : CoreView) (seat : SeatView) (fault : StepFault) → seat.hart < core.harts → fault ≡ Memory → RefusesSeat core seat fault
seat_for_memory core seat fault there e = rw e there

-- a line that isn't there
pub refuses_line : (core : CoreView) (line : ℕ) (fault : StepFault) → length core.shared.cache.lines ≡ length core.start
    → (fault ≡ NoSuchLine) × (length core.shared.cache.lines ≤ line) → RefusesLine core line fault
refuses_line core line fault lines refused = rw refused.0 (rw lines at refused.1)

-- what is left of a refusal where the core isn't known
pub line_refusal : (core : CoreView) (line : ℕ) (fault : StepFault) → RefusesLine core line fault → (fault ≡ NoSuchLine) ⊎ (fault ≡ Memory)
line_refusal core line NoSuchHart refused = absurd refused
line_refusal core line NoSuchLine refused = inl refl
line_refusal core line TraceFull refused = absurd refused
line_refusal core line OutOfLimits refused = absurd refused
line_refusal core line Memory refused = inr refl

pub step_refusal : (core : CoreView) (seat : SeatView) (fault : StepFault) → RefusesSeat core seat fault → IsStepRefusal fault
step_refusal core seat NoSuchHart refused = inl refl
step_refusal core seat TraceFull refused = inr (inl refl)
step_refusal core seat Memory refused = inr (inr refl)
step_refusal core seat NoSuchLine refused = absurd refused
step_refusal core seat OutOfLimits refused = absurd refused
