-- Runs that differ in persistent memory alone have the same answer.
use Rattle.std.proofs.Common.{◌≡◌, ℕ, zero, suc, ◌+◌, ◌<◌, ◌≤◌, ◌==◌, List, Option, Some, None, Bool, true, false, nat_le, slice_get, refl, ap, ◌∙◌, inl, inr, arith}
use Rattle.std.proofs.lemmas.Bool.{cases_lt, cases_Bool, lt-leb}
use Rattle.line_memory.specs.Memory.{Memory}
use Rattle.line_memory.specs.declared.TheConstants.{DATA_BASE, DATA_SIZE, PERSISTENT_BASE}
use Rattle.hart.specs.Registers.{register}
use Rattle.hart.specs.declared.state.HartState.{HartState}
use Rattle.hart.specs.declared.state.Status.{Status}
use Rattle.hart.specs.declared.state.Status.TheVariants as statuses
use Rattle.machine.specs.Replies.{memory_in}
use Rattle.machine.specs.Run.{Config}
use Rattle.recovery.specs.Answers.{answer, answer_at, answer_by, answer_of_hart, bytes_from}
use Rattle.recovery.specs.Asking.{AreAsOne}

bytes_same : (m o : Memory) → ((a : ℕ) → a < PERSISTENT_BASE → o a ≡ m a) → (address count : ℕ) → address + count ≤ PERSISTENT_BASE
    → bytes_from o address count ≡ bytes_from m address count
unfolding bytes_from
bytes_same m o same address zero fits = refl
bytes_same m o same address (suc count) fits =
    rw (same address (omega arith), bytes_same m o same (suc address) count (omega arith)) refl

answer_at_same : (m o : Memory) → ((a : ℕ) → a < PERSISTENT_BASE → o a ≡ m a) → (address count : ℕ) → answer_at o address count ≡ answer_at m address count
answer_at_same m o same address count = elim (cases_Bool (count == 0)) [
  | inl e ↦ rw e refl
  | inr e ↦ elim (cases_lt (DATA_BASE + DATA_SIZE) (address + count)) [
    | inl past ↦ rw (e, lt-leb (address + count) (DATA_BASE + DATA_SIZE) past) (elim (cases_Bool (nat_le DATA_BASE address)) [ inl f ↦ rw f refl | inr f ↦ rw f refl ])
    | inr fits ↦ rw (bytes_same m o same address count (omega (arith, fits))) refl
  ]
]

answer_by_same : (m o : Memory) (s : HartState) (status : Status) → ((a : ℕ) → a < PERSISTENT_BASE → o a ≡ m a) → answer_by o s status ≡ answer_by m s status
answer_by_same m o s statuses.Running same = refl
answer_by_same m o s (statuses.Trapped trap) same = refl
answer_by_same m o s (statuses.Exited zero) same = answer_at_same m o same (register s.registers 11) (register s.registers 12)
answer_by_same m o s (statuses.Exited (suc code)) same = refl

answer_of_same : (m o : Memory) (state : Option HartState) → ((a : ℕ) → a < PERSISTENT_BASE → o a ≡ m a) → answer_of_hart o state ≡ answer_of_hart m state
answer_of_same m o None same = refl
answer_of_same m o (Some s) same = answer_by_same m o s s.status same

pub answer_same : (c d : Config) (full : Bool) → AreAsOne c d → answer d full ≡ answer c full
answer_same c d true one = refl
answer_same c d false one =
    ap (λ (harts : List HartState). answer_of_hart (memory_in d.common) (slice_get harts 0)) one.harts
    ∙ answer_of_same (memory_in c.common) (memory_in d.common) (slice_get c.harts 0) one.memory
