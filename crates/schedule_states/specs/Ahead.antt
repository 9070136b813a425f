-- A hart that has run ahead to its next request, or to where it stops.
use Rattle.std.specs.Prelude.{◌≢◌, ℕ}
use Rattle.bus.specs.Alone.{Asks, GoesAlone}
use Rattle.hart.specs.Needs.{IsSpelledBy}
use Rattle.hart.specs.Requests.{IsRequest}
use Rattle.hart.specs.declared.state.HartState.{HartState}
use Rattle.hart.specs.declared.state.Status.TheVariants.{Running}
use Rattle.line_memory.specs.Memory.{Memory}
use Rattle.machine.specs.Run.{fetched}
use Rattle.schedule_states.specs.declared.ahead.Next.{Next}
use Rattle.schedule_states.specs.declared.ahead.Next.TheVariants as nexts

-- what is next of a hart: a request that its instruction makes, or nothing, as it has stopped
abbrev pub IsNext : Memory → HartState → Next → Type 0
IsNext text s (nexts.Asks instr request) = Asks text s request × IsSpelledBy (fetched text s.pc) instr × IsRequest request
IsNext text s nexts.Stopped = s.status ≢ Running
IsNext text s nexts.TooLong = Unit {0}

-- some register steps lead there
abbrev pub ComesAlone : Memory → HartState → HartState → Type 0
ComesAlone text s t = (steps : ℕ) × GoesAlone text steps s t
