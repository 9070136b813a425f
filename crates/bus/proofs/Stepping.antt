-- A step of a seat, with the lock or without.
use Rattle.std.proofs.Common.{inl, inr}
use Rattle.bus.specs.declared.outcome.Outcome.{Outcome}
use Rattle.bus.specs.Replays.{CoreView}
use Rattle.bus.specs.Seating.{IsLocalStep}
use Rattle.bus.specs.Seats.{SeatView}
use Rattle.bus.specs.Serving.{IsServed}
use Rattle.bus.specs.Stepping.{IsAnswered, IsStepOf}

pub local_step : (old new : SeatView) (o : Outcome) → IsLocalStep old new o → IsStepOf old new o
local_step old new o step = inl step

pub answered_step : (old new : SeatView) (o : Outcome) → IsAnswered old new o → IsStepOf old new o
answered_step old new o answered = inr answered

pub served_answer : (core after : CoreView) (old new : SeatView) (o : Outcome) → IsServed core after old new o → IsAnswered old new o
served_answer core after old new o v = record {
  instr = v.instr;
  request = v.request;
  reply = v.reply;
  text = after.shared.ram.text;
  told = v.told;
  answer = v.answer;
}
