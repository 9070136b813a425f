-- Steps of a hart that need no request.
use Rattle.std.specs.Prelude.{◌≡◌, ℕ, zero, suc}
use Rattle.hart.specs.declared.state.HartState.{HartState}
use Rattle.hart.specs.declared.state.Status.TheVariants.{Running, Trapped}
use Rattle.hart.specs.declared.need.Need.{Need}
use Rattle.hart.specs.declared.need.Need.TheVariants.{Local, Ask, Stop}
use Rattle.hart.specs.declared.need.Request.{Request}
use Rattle.hart.specs.Needs.{Needs}
use Rattle.line_memory.specs.Memory.{Memory}
use Rattle.machine.specs.Run.{fetched}

-- what the next instruction of a hart needs, by its text
abbrev pub NeedsIn : Memory → HartState → Need → Type 0
NeedsIn text s need = Needs s (fetched text s.pc) need

-- what a need makes of a hart that goes on alone: a register step, an exit or a trap
abbrev pub LeavesAlone : HartState → Need → HartState → Type 0
LeavesAlone s (Local after) t = t ≡ after
LeavesAlone s (Stop trap) t = t ≡ record s { status = Trapped trap }
LeavesAlone s (Ask request) t = ⊥

-- one step of a running hart without a request
pub record StepsAlone (text : Memory) (s t : HartState) : Type 0 where
  pub need : Need
  pub running : s.status ≡ Running
  pub needs : NeedsIn text s need
  pub leaves : LeavesAlone s need t

-- so many of them
abbrev pub GoesAlone : Memory → ℕ → HartState → HartState → Type 0
GoesAlone text zero s t = t ≡ s
GoesAlone text (suc n) s t = (middle : HartState) × GoesAlone text n s middle × StepsAlone text middle t

-- the hart runs, and its next step is a request
pub record Asks (text : Memory) (s : HartState) (request : Request) : Type 0 where
  pub running : s.status ≡ Running
  pub needs : NeedsIn text s (Ask request)

abbrev pub IsAsking : Memory → HartState → Type 0
IsAsking text s = (request : Request) × Asks text s request
