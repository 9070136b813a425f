-- The cleans and fences of a run by the instruction that made them, each with the reason why it is needless, if it is.
use Rattle.std.specs.Prelude.{◌≡◌, ◌↔◌, ◌==◌, ◌<◌, ℕ, Bool, true, false, ◌&&◌, List, Option, Some, None, All, AllPairs, Any}
use Rattle.std.specs.List.{count_by}
use Rattle.durability.specs.declared.redundant.reason.Reason.{Reason}
use Rattle.durability.specs.declared.redundant.reason.Reason.TheVariants.{NotFenced, NothingToComplete, CleanedAgain, AlreadyThere}
use Rattle.report.specs.Events.{hart_of}
use Rattle.machine.specs.declared.run_trace.traced_event.TracedEvent.{TracedEvent}
use Rattle.store_trace.specs.declared.event.Event.{Event}
use Rattle.store_trace.specs.declared.event.Event.TheVariants.{Store, Clean, Fence, Begin, End}

-- an event of a run, and why it is needless, if it is
abbrev pub Judged : Type 0
Judged = TracedEvent × Option Reason

abbrev pub is_clean_or_fence : Event → Bool
is_clean_or_fence (Store hart line offset width value) = false
is_clean_or_fence (Clean hart line) = true
is_clean_or_fence (Fence hart) = true
is_clean_or_fence (Begin hart op) = false
is_clean_or_fence (End hart op) = false

-- needless although it is fenced, so that it is paid for in vain
abbrev pub is_paid_in_vain : Option Reason → Bool
is_paid_in_vain None = false
is_paid_in_vain (Some NotFenced) = false
is_paid_in_vain (Some NothingToComplete) = true
is_paid_in_vain (Some CleanedAgain) = true
is_paid_in_vain (Some AlreadyThere) = true

abbrev pub is_unfenced_by : Option Reason → Bool
is_unfenced_by None = false
is_unfenced_by (Some NotFenced) = true
is_unfenced_by (Some NothingToComplete) = false
is_unfenced_by (Some CleanedAgain) = false
is_unfenced_by (Some AlreadyThere) = false

-- a clean or a fence; one that is paid for in vain; one that is needless for want of a fence
abbrev pub is_use : Judged → Bool
is_use one = is_clean_or_fence one.0.event

abbrev pub is_vain : Judged → Bool
is_vain one = is_use one && is_paid_in_vain one.1

abbrev pub is_unfenced : Judged → Bool
is_unfenced one = is_use one && is_unfenced_by one.1

-- what the instruction at a pc made; what a hart made there
abbrev pub is_use_at : ℕ → Judged → Bool
is_use_at pc one = is_use one && one.0.pc == pc

abbrev pub is_vain_at : ℕ → Judged → Bool
is_vain_at pc one = is_vain one && one.0.pc == pc

abbrev pub is_use_by : ℕ → ℕ → Judged → Bool
is_use_by pc hart one = is_use_at pc one && hart_of one.0.event == hart

-- an instruction all of whose cleans and fences are needless: how many they are, and the hart that made them all, where one did
pub record Always : Type 0 where
  pub pc : ℕ
  pub hart : Option ℕ
  pub count : ℕ

pub record IsAlways (all : List Judged) (one : Always) : Type 0 where
  pub some : 0 < one.count
  pub uses : count_by (is_use_at one.pc) all ≡ one.count
  pub vain : count_by (is_vain_at one.pc) all ≡ one.count
  pub hart : (h : ℕ) → one.hart ≡ Some h ↔ count_by (is_use_by one.pc h) all ≡ one.count

-- all of them, upwards
pub record AreAlways (all : List Judged) (found : List Always) : Type 0 where
  pub upwards : AllPairs (λ one other. one.pc < other.pc) found
  pub each : All (IsAlways all) found
  pub every : (pc : ℕ) → 0 < count_by (is_use_at pc) all → count_by (is_vain_at pc) all ≡ count_by (is_use_at pc) all →
      Any (λ one. one.pc ≡ pc) found
