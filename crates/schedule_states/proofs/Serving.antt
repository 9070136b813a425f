-- What a request does to a state's memory.
use Rattle.std.proofs.Common.{◌≡◌, ℕ, ◌-◌, ◌/◌, ◌%◌, nat_le, Bool, true, false, cond, List, [], ◌∷◌, ◌++◌, Some, refl, ap, ◌∙◌}
use Rattle.hart.specs.declared.need.Request.{Request}
use Rattle.hart.specs.declared.need.Request.TheVariants.{Load, Store, Lr, Sc, Amo, Cbo, Fence, FenceI, Begin, End}
use Rattle.hart.specs.declared.need.Reply.{Reply}
use Rattle.hart.specs.declared.need.Reply.TheVariants.{Done}
use Rattle.isa_table.specs.declared.instruction.CacheOp.{CacheOp}
use Rattle.line_memory.specs.declared.TheConstants.{PERSISTENT_BASE}
use Rattle.machine.specs.Histories.{Write as HistoryWrite, written}
use Rattle.machine.specs.Replies.{events_of, events_of_write}
use Rattle.store_trace.specs.History.{history, steps_of}
use Rattle.store_trace.specs.declared.event.Event.{Event}
use Rattle.store_trace.specs.declared.event.Event.TheVariants as events
use Rattle.schedule_states.specs.Memories.{steps_of_clean, steps_of_write}
use Rattle.schedule_states.specs.Requests.{write_of}
use Rattle.schedule_states.specs.declared.request.Write.{Write}

-- a request that writes makes the event of the write
event_written : (h : ℕ) (request : Request) (reply : Reply) (w : HistoryWrite) → written request reply ≡ Some w →
    events_of h request reply ≡ events_of_write h (written request reply)
event_written h (Load a n) reply w is = refl
event_written h (Store a n v) reply w is = refl
event_written h (Lr a n) reply w is = refl
event_written h (Sc a n v) reply w is = refl
event_written h (Amo op a n v) reply w is = refl
event_written h (Cbo op a) reply w is = cc
event_written h Fence reply w is = cc
event_written h FenceI reply w is = refl
event_written h (Begin op) reply w is = cc
event_written h (End op) reply w is = cc

steps_if : (test : Bool) (e : Event) → history (cond test (e ∷ []) []) ≡ cond test (steps_of e ++ []) []
steps_if true e = refl
steps_if false e = refl

write_steps : (h : ℕ) (w : Write) → history (events_of_write h (Some (write_of w))) ≡ steps_of_write w.address w.width w.value
write_steps h w = steps_if (nat_le PERSISTENT_BASE w.address)
    (events.Store h ((w.address - PERSISTENT_BASE) / 64) ((w.address - PERSISTENT_BASE) % 64) w.width w.value)

pub written_steps : (h : ℕ) (request : Request) (reply : Reply) (w : Write) → written request reply ≡ Some (write_of w) →
    history (events_of h request reply) ≡ steps_of_write w.address w.width w.value
written_steps h request reply w is =
    ap (λ (es : List Event). history es) (event_written h request reply (write_of w) is ∙ ap (events_of_write h) is) ∙ write_steps h w

pub cleaned_steps : (h address : ℕ) (op : CacheOp) → history (events_of h (Cbo op address) Done) ≡ steps_of_clean h address
cleaned_steps h address op = steps_if (nat_le PERSISTENT_BASE address) (events.Clean h ((address - PERSISTENT_BASE) / 64))
