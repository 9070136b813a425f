-- What is read off a history, whose newest entry is first: the flat memory that it leaves, the reservations that stand
-- after it, and the text that each hart fetches.
-- Source: RISC-V Unprivileged ISA 20191213, chapter 3 ("Zifencei") and chapter 8 ("A" extension), where a reservation set
-- is one line of 64 bytes; a copy of the text for each hart is this project's form of an instruction fetch.
use Rattle.std.specs.Prelude.{ℕ, zero, ◌+◌, ◌/◌, ◌&&◌, List, [], ◌∷◌, ◌++◌, Option, Some, None, Bool, true, false, eqb, nat_lt, nat_le, if◌then◌else◌, flat_map}
use Rattle.line_memory.specs.Memory.{Memory, stored_to}
use Rattle.line_memory.specs.declared.TheConstants.{TEXT_BASE, TEXT_SIZE}
use Rattle.hart.specs.Memory.{amo_result}
use Rattle.hart.specs.declared.need.Request.{Request}
use Rattle.hart.specs.declared.need.Request.TheVariants.{Store, Lr, Sc, Amo, FenceI}
use Rattle.hart.specs.declared.need.Reply.{Reply}
use Rattle.hart.specs.declared.need.Reply.TheVariants.{Value, Done}
use Rattle.reservation.specs.Reserved.{Call, Reserved, Stored, Taken, is_reserved}
use Rattle.machine.specs.declared.shared_memory.history.Entry.{Entry}
use Rattle.machine.specs.declared.shared_memory.history.Entry.TheVariants.{Asked, Evicted}

-- a write to memory: the low bytes of a value, as many as the width says, from an address on
pub record Write : Type 0 where
  pub address : ℕ
  pub width : ℕ
  pub value : ℕ

-- what a request wrote, by the reply to it: a store that was done, an SC that was answered 0, and an atomic operation,
-- which is answered with the value that it found
abbrev pub written : Request → Reply → Option Write
written (Store a w v) Done = Some (record { address = a; width = w; value = v })
written (Sc a w v) (Value zero) = Some (record { address = a; width = w; value = v })
written (Amo op a w operand) (Value old) = Some (record { address = a; width = w; value = amo_result op w old operand })
written request reply = None

abbrev pub memory_with : Memory → Option Write → Memory
memory_with memory None = memory
memory_with memory (Some write) = stored_to memory write.address write.width write.value

-- the flat memory after a request with its reply
abbrev pub memory_after : Memory → Request → Reply → Memory
memory_after memory request reply = memory_with memory (written request reply)

-- the flat memory that a history leaves, by all its writes, from the memory before it
abbrev pub replayed : Memory → List Entry → Memory
replayed memory [] = memory
replayed memory (Asked h request reply ∷ before) = memory_after (replayed memory before) request reply
replayed memory (Evicted line ∷ before) = replayed memory before

-- the text of a memory: its bytes in the text region, and no other
abbrev pub text_of : Memory → Memory
text_of memory address =
    if nat_le TEXT_BASE address && nat_lt address (TEXT_BASE + TEXT_SIZE) then memory address else None

-- a FENCE.I of hart h
abbrev pub is_renewing : Request → Bool
is_renewing FenceI = true
is_renewing request = false

abbrev pub is_renewal : ℕ → Entry → Bool
is_renewal h (Asked hart request reply) = is_renewing request && eqb hart h
is_renewal h (Evicted line) = false

-- the text that hart h fetches: the text of the flat memory right after the hart's last FENCE.I, else that of the
-- memory before the history
abbrev pub fetched_text : Memory → ℕ → List Entry → Memory
fetched_text memory h [] = text_of memory
fetched_text memory h (entry ∷ before) =
    if is_renewal h entry then text_of (replayed memory (entry ∷ before)) else fetched_text memory h before

-- what an entry did to reservations: a write ended those of its line by other harts, an LR that didn't trap made one,
-- and an SC that didn't trap ended its hart's
abbrev pub calls_of_write : ℕ → Option Write → List Call
calls_of_write h None = []
calls_of_write h (Some write) = Stored h (write.address / 64) ∷ []

abbrev pub calls_of_hart : ℕ → Request → Reply → List Call
calls_of_hart h (Lr a w) (Value value) = Reserved h (a / 64) ∷ []
calls_of_hart h (Sc a w v) (Value outcome) = Taken h ∷ []
calls_of_hart h request reply = []

abbrev pub calls_of : Entry → List Call
calls_of (Asked h request reply) = calls_of_write h (written request reply) ++ calls_of_hart h request reply
calls_of (Evicted line) = []

-- hart h's reservation of line l stands: its last LR or SC that didn't trap is an LR in the line, and no other hart has
-- written to the line since
abbrev pub has_reserved : List Entry → ℕ → ℕ → Bool
has_reserved history h l = is_reserved h l (flat_map calls_of history)
