-- What a run asks of persistent memory: the bytes that it loads and hasn't stored itself.
-- This project's own: what a routine does on a crash image (Vinter, USENIX ATC 2022) is told by what it has asked of it.
use Rattle.std.specs.Prelude.{◌≡◌, ◌<◌, ◌==◌, ◌&&◌, ℕ, true, Option, Some, None, List, [], ◌∷◌, ◌++◌, bit_or, nat_le, slice_get, if◌then◌else◌}
use Rattle.std.specs.List.{AllByRecursion}
use Rattle.line_memory.specs.Lines.{line_at}
use Rattle.line_memory.specs.declared.TheConstants.{PERSISTENT_BASE}
use Rattle.hart.specs.declared.need.Request.{Request}
use Rattle.hart.specs.declared.need.Request.TheVariants.{Load, Lr, Amo}
use Rattle.hart.specs.declared.need.Reply.{Reply}
use Rattle.hart.specs.declared.need.Reply.TheVariants.{Value}
use Rattle.machine.specs.Histories.{Write, written}
use Rattle.machine.specs.Replies.{line_of, memory_in, offset_of}
use Rattle.machine.specs.declared.shared_memory.history.Entry.{Entry}
use Rattle.machine.specs.declared.shared_memory.history.Entry.TheVariants.{Asked, Evicted}
use Rattle.machine.specs.Run.{Config}
use Rattle.verdict.specs.Branches.{question}
use Rattle.verdict.specs.Bytes.{access_bytes, has_byte, without}
use Rattle.verdict.specs.declared.branches.question.Question.{Question}

-- some bytes of a line, and those of a write to it
abbrev pub with_written : ℕ → Option Write → ℕ → ℕ
with_written l None bytes = bytes
with_written l (Some write) bytes =
    if nat_le PERSISTENT_BASE write.address && (line_of write.address == l) then bit_or bytes (access_bytes (offset_of write.address) write.width) else bytes

-- the bytes of a line that a history, whose newest entry is first, has stored
abbrev pub own_bytes : List Entry → ℕ → ℕ
own_bytes [] l = 0
own_bytes (Asked h request reply ∷ before) l = with_written l (written request reply) (own_bytes before l)
own_bytes (Evicted line ∷ before) l = own_bytes before l

-- bytes of a line are asked, if there are any
abbrev pub asked_if : ℕ → ℕ → List Question
asked_if l bytes = if bytes == 0 then [] else question l bytes ∷ []

-- what an access of so many bytes asks where these bytes of each line are the run's own
abbrev pub asked_at : (ℕ → ℕ) → ℕ → ℕ → List Question
asked_at own address width =
    if nat_le PERSISTENT_BASE address then asked_if (line_of address) (without (access_bytes (offset_of address) width) (own (line_of address))) else []

-- what a request asks, by the reply to it: one that met a fault asks nothing, nor does an SC, a store or a cache-block operation
abbrev pub asked_by : (ℕ → ℕ) → Request → Reply → List Question
asked_by own (Load address width) (Value value) = asked_at own address width
asked_by own (Lr address width) (Value value) = asked_at own address width
asked_by own (Amo op address width operand) (Value old) = asked_at own address width
asked_by own request reply = []

-- what a history asks, the oldest first
abbrev pub asked : List Entry → List Question
asked [] = []
asked (Asked h request reply ∷ before) = asked before ++ asked_by (own_bytes before) request reply
asked (Evicted line ∷ before) = asked before

-- two media have the same bytes where these ask for them
abbrev pub AgreeOn : List (List ℕ) → List (List ℕ) → List Question → Type 0
AgreeOn lines others questions =
    AllByRecursion (λ q. (i : ℕ) → has_byte q.bytes i ≡ true → slice_get (line_at others q.line) i ≡ slice_get (line_at lines q.line) i) questions

-- two configurations differ in persistent memory alone
pub record AreAsOne (c d : Config) : Type 0 where
  pub harts : d.harts ≡ c.harts
  pub history : d.common.history ≡ c.common.history
  pub memory : (a : ℕ) → a < PERSISTENT_BASE → memory_in d.common a ≡ memory_in c.common a
