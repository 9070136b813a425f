-- What a service does to a core and to the seat that is served.
use Rattle.std.specs.Prelude.{◌≡◌, ◌+◌, ◌∷◌, ℕ, List, true, false}
use Rattle.hart.specs.Effect.{answered}
use Rattle.hart.specs.Needs.{IsSpelledBy}
use Rattle.hart.specs.declared.need.Request.{Request}
use Rattle.hart.specs.declared.need.Reply.{Reply}
use Rattle.isa_table.specs.declared.instruction.Instr.{Instr}
use Rattle.machine.specs.Run.{fetched}
use Rattle.machine.specs.Represents.{text_bytes}
use Rattle.machine.specs.Histories.{is_renewing, replayed, text_of}
use Rattle.machine.specs.Replies.{reply_after, starting_memory}
use Rattle.machine.specs.SharedView.{Evicts, Serves}
use Rattle.machine.specs.declared.shared_memory.history.Entry.TheVariants.{Asked, Evicted}
use Rattle.bus.specs.declared.outcome.Outcome.{Outcome}
use Rattle.bus.specs.Alone.{Asks}
use Rattle.bus.specs.Replays.{CoreView, common_of}
use Rattle.bus.specs.Seats.{SeatView, outcome_of}

-- the core answers a request of hart h by flat memory and the reservations of its history, to which both are added
pub record Tells (old new : CoreView) (h : ℕ) (request : Request) (reply : Reply) : Type 0 where
  pub answer : reply ≡ reply_after (common_of old) h request
  pub serves : Serves old.shared new.shared h request reply
  pub core : new ≡ record old { shared = new.shared; history = Asked h request reply ∷ old.history }

-- a seat's next step is this request of this instruction; with the reply it joins the seat's list, and the hart is what
-- `answered` gives. A FENCE.I alone changes the hart's copy
pub record IsTold (old new : SeatView) (instr : Instr) (request : Request) (reply : Reply) (text : List ℕ) : Type 0 where
  pub asks : Asks (text_bytes old.copy) old.state request
  pub spelled : IsSpelledBy (fetched (text_bytes old.copy) old.state.pc) instr
  pub renewed : is_renewing request ≡ true → new.copy ≡ text
  pub kept : is_renewing request ≡ false → new.copy ≡ old.copy
  pub seat : new ≡ record old {
    made = old.made + 1;
    state = answered old.state instr reply;
    copy = new.copy;
    exchanges = record { steps = old.since; request = request; reply = reply } ∷ old.exchanges;
    since = 0;
  }

-- the request of a seat's next step is served: the core answers it and tells the seat. The text that a FENCE.I makes the
-- hart's copy is that of the flat memory right after it
pub record IsServed (old new : CoreView) (before after : SeatView) (outcome : Outcome) : Type 0 where
  pub instr : Instr
  pub request : Request
  pub reply : Reply
  pub tells : Tells old new before.hart request reply
  pub told : IsTold before after instr request reply new.shared.ram.text
  pub renews : text_bytes new.shared.ram.text ≡ text_of (replayed (starting_memory old.program old.start) new.history)
  pub answer : outcome ≡ outcome_of after.state.status

-- an eviction joins the history
pub record EvictsLine (old new : CoreView) (line : ℕ) : Type 0 where
  pub evicts : Evicts old.shared new.shared line
  pub core : new ≡ record old { shared = new.shared; history = Evicted line ∷ old.history }
