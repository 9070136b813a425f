-- When a seat agrees with a core.
use Rattle.std.specs.Prelude.{◌≡◌, ℕ, List, [], ◌∷◌, Bool, true, false, eqb}
use Rattle.isa_table.specs.declared.instruction.Instr.{Instr}
use Rattle.hart.specs.Effect.{answered, start}
use Rattle.hart.specs.Needs.{IsSpelledBy}
use Rattle.hart.specs.declared.state.HartState.{HartState}
use Rattle.hart.specs.declared.need.Request.{Request}
use Rattle.hart.specs.declared.need.Reply.{Reply}
use Rattle.line_memory.specs.Memory.{Memory}
use Rattle.machine.specs.Run.{fetched}
use Rattle.machine.specs.Represents.{text_bytes}
use Rattle.machine.specs.declared.shared_memory.history.Entry.{Entry}
use Rattle.machine.specs.declared.shared_memory.history.Entry.TheVariants.{Asked, Evicted}
use Rattle.machine.specs.Histories.{fetched_text}
use Rattle.machine.specs.Replies.{starting_memory}
use Rattle.bus.specs.declared.exchange.Exchange.{Exchange}
use Rattle.bus.specs.Alone.{Asks, GoesAlone}
use Rattle.bus.specs.Replays.{CoreView}
use Rattle.bus.specs.Seats.{SeatView}

-- from `s` the hart makes so many register steps and then this request, and the reply to it leaves `t`
pub record Exchanges (text : Memory) (s : HartState) (x : Exchange) (t : HartState) : Type 0 where
  pub at : HartState
  pub alone : GoesAlone text x.steps s at
  pub asks : Asks text at x.request
  pub instr : Instr
  pub spelled : IsSpelledBy (fetched text at.pc) instr
  pub answered : t ≡ answered at instr x.reply

-- the last exchange is this request with this reply, and those before it led to where it began
abbrev pub LastIs : Memory → Request → Reply → (List Exchange → HartState → Type 0) → List Exchange → HartState → Type 0
LastIs text request reply Before [] t = ⊥
LastIs text request reply Before (x ∷ xs) t =
    (x.request ≡ request) × (x.reply ≡ reply) × ((s : HartState) × Before xs s × Exchanges text s x t)

abbrev pub LastIf : Bool → Memory → Request → Reply → (List Exchange → HartState → Type 0) → List Exchange → HartState → Type 0
LastIf true text request reply Before xs t = LastIs text request reply Before xs t
LastIf false text request reply Before xs t = Before xs t

-- these exchanges are hart h's part of the history, the newest first in both; from its start, by the texts that it fetches,
-- the hart makes them, and is `t` right after the last
abbrev pub IsPart : Memory → ℕ → List Entry → List Exchange → HartState → Type 0
IsPart initial h [] xs t = (xs ≡ []) × (t ≡ start h)
IsPart initial h (Evicted line ∷ before) xs t = IsPart initial h before xs t
IsPart initial h (Asked g request reply ∷ before) xs t =
    LastIf (eqb g h) (fetched_text initial h before) request reply (IsPart initial h before) xs t

-- the seat was loaded with the core's text, its list is its hart's part of the history, which the hart makes from its
-- start, and the steps since then lead to where the seat is
pub record Agrees (core : CoreView) (seat : SeatView) : Type 0 where
  pub text : seat.text ≡ core.program.text
  pub copy : text_bytes seat.copy ≡ fetched_text (starting_memory core.program core.start) seat.hart core.history
  pub from : HartState
  pub part : IsPart (starting_memory core.program core.start) seat.hart core.history seat.exchanges from
  pub alone : GoesAlone (text_bytes seat.copy) seat.since from seat.state
