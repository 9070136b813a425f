-- What of all that harts share decides what may come.
use Rattle.std.specs.Prelude.{ℕ, ◌&&◌, List, [], ◌∷◌, Bool, false, eqb, not, if◌then◌else◌}
use Rattle.line_memory.specs.Memory.{Memory}
use Rattle.hart.specs.declared.need.Request.{Request}
use Rattle.hart.specs.declared.need.Reply.{Reply}
use Rattle.reservation.specs.Reserved.{Call, Reserved, Stored, Taken}
use Rattle.store_trace.specs.History.{history}
use Rattle.machine.specs.Histories.{calls_of, fetched_text, has_reserved, is_renewing, memory_after, text_of}
use Rattle.machine.specs.declared.shared_memory.history.Entry.TheVariants.{Asked}
use Rattle.machine.specs.Replies.{SharedState, events_of, memory_in, replied, trace_in}
use Rattle.schedule_states.specs.Persisting.{Persisted, persisted, with_steps}

-- flat memory, the text that each hart fetches, which lines each hart has reserved, and what of the trace decides what a power cut may leave
pub record Seen : Type 0 where
  pub memory : Memory
  pub texts : ℕ → Memory
  pub reserved : ℕ → ℕ → Bool
  pub persisted : Persisted

abbrev pub seen : SharedState → Seen
seen c = record {
  memory = memory_in c;
  texts = λ h. fetched_text c.initial h c.history;
  reserved = λ h l. has_reserved c.history h l;
  persisted = persisted (history (trace_in c));
}

-- reservations after one more call
abbrev pub reserved_with : (ℕ → ℕ → Bool) → Call → ℕ → ℕ → Bool
reserved_with reserved (Reserved hart line) h l = if eqb hart h then eqb line l else reserved h l
reserved_with reserved (Stored hart line) h l = if eqb line l && not (eqb hart h) then false else reserved h l
reserved_with reserved (Taken hart) h l = if eqb hart h then false else reserved h l

-- after more of them, the newest first
abbrev pub reserved_by : (ℕ → ℕ → Bool) → List Call → ℕ → ℕ → Bool
reserved_by reserved [] = reserved
reserved_by reserved (call ∷ calls) = reserved_with (reserved_by reserved calls) call

-- after a request of hart h with this reply
abbrev pub seen_with : Seen → ℕ → Request → Reply → Seen
seen_with v h request reply = record {
  memory = memory_after v.memory request reply;
  texts = λ g. if is_renewing request && eqb h g then text_of (memory_after v.memory request reply) else v.texts g;
  reserved = reserved_by v.reserved (calls_of (Asked h request reply));
  persisted = with_steps v.persisted (history (events_of h request reply));
}

-- the reply to it
abbrev pub reply_seen : Seen → ℕ → Request → Reply
reply_seen v h request = replied v.memory (v.reserved h) request

abbrev pub seen_after : Seen → ℕ → Request → Seen
seen_after v h request = seen_with v h request (reply_seen v h request)
