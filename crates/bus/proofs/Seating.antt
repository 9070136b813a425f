-- One step of a hart without a request.
use Rattle.std.proofs.Common.{◌≡◌, refl, ◌∙◌}
use Rattle.hart.specs.declared.state.HartState.{HartState}
use Rattle.hart.specs.declared.state.Status.TheVariants.{Running, Trapped}
use Rattle.hart.specs.declared.state.Trap.{Trap}
use Rattle.hart.specs.declared.need.Need.TheVariants.{Local, Ask, Stop}
use Rattle.hart.specs.declared.need.Request.{Request}
use Rattle.hart.specs.Needs.{Needs}
use Rattle.line_memory.specs.Memory.{Memory}
use Rattle.machine.specs.Run.{fetched}
use Rattle.isa_table.specs.declared.instruction.Instr.{Instr}
use Rattle.hart.specs.Effect.{effect}
use Rattle.machine.proofs.Determined.{needs_once}
use Rattle.bus.specs.Alone.{Asks, IsAsking, StepsAlone}

pub goes_on : (text : Memory) (s t : HartState) → s.status ≡ Running → Needs s (fetched text s.pc) (Local t) → StepsAlone text s t
goes_on text s t running needs = record { need = Local t; running = running; needs = needs; leaves = refl }

pub traps : (text : Memory) (s t : HartState) (trap : Trap) → s.status ≡ Running → Needs s (fetched text s.pc) (Stop trap)
    → t ≡ record s { status = Trapped trap } → StepsAlone text s t
traps text s t trap running needs leaves = record { need = Stop trap; running = running; needs = needs; leaves = leaves }

pub asks : (text : Memory) (s : HartState) (request : Request) → s.status ≡ Running → Needs s (fetched text s.pc) (Ask request) → Asks text s request
asks text s request running needs = record { running = running; needs = needs }

-- a hart that asks
pub asks_again : (text : Memory) (s : HartState) (request : Request) → IsAsking text s → Needs s (fetched text s.pc) (Ask request)
    → Asks text s request
asks_again text s request asking needs = record { running = asking.1.running; needs = needs }

pub not_trapped : (text : Memory) (s : HartState) (trap : Trap) → IsAsking text s → Needs s (fetched text s.pc) (Stop trap) → ⊥
not_trapped text s trap asking needs =
    let one : Ask asking.0 ≡ Stop trap = needs_once s (fetched text s.pc) (Ask asking.0) (Stop trap) asking.1.needs needs in cc

pub not_done : (text : Memory) (s t : HartState) (i : Instr) → IsAsking text s → Needs s (fetched text s.pc) (effect s i) → Local t ≡ effect s i → ⊥
not_done text s t i asking needs same =
    let one : Local t ≡ Ask asking.0 = same ∙ needs_once s (fetched text s.pc) (effect s i) (Ask asking.0) needs asking.1.needs in cc

pub not_stopped : (text : Memory) (s : HartState) (trap : Trap) (i : Instr) → IsAsking text s → Needs s (fetched text s.pc) (effect s i)
    → Stop trap ≡ effect s i → ⊥
not_stopped text s trap i asking needs same =
    let one : Stop trap ≡ Ask asking.0 = same ∙ needs_once s (fetched text s.pc) (effect s i) (Ask asking.0) needs asking.1.needs in cc
